-- What is owed to a day of the floor book, as theorems of a few lines each (rules 13.9 to 13.19 and 13.25 to
-- 13.29): the summit of the book. A day is a book that began empty, changed by nothing but admissions, on one
-- network with the same closed nodes (specs/Day.antt); `Admission` is the promise of `book::admit`. Assumes
-- nothing.
--     admission_once       of any book: one answer, and one book that is left, for each input
--     accepted_exactly, refused_exactly_then    of any book: accepted exactly where no check holds, refused
--                          exactly with the first that does
--     admission_bound      of any book, which has 64 slots: demand 3's bound, from now and from those held
--     day_bound            so on a day
--     day_unforgotten      a day is a day of the book that forgets nothing and has a slot for everybody
--     day_same_ticks       so every tick is the one that such a book gives, and there is no other
--     day_apart            no two carriers ever admitted meet or cross, whatever shortest paths they take
--     day_paths            each of them has a shortest path
--     day_travels          on each it comes to its goal its distance after its start, and is nowhere after
--                          its last tick
--     day_never_16, day_never_17    with a dwell of at most 255 no admission is refused as damaged, and with
--                          any none as stale
--     trolley_once, trolley_same    of any book: one end, one book that is left and one list of ticks for
--                          each input of a trolley; `Ride` is the promise of `book::admit_all`
--     trolley_refused_exactly, trolley_stopped_exactly, trolley_all_exactly    of any book: when it ends how
--     trolley_empty, trolley_short, trolley_long    of any book: what a trolley without moves, one with too
--                          short a list and one with too many moves come to
--     trolley_later        of any book: a move behind the first is refused for itself, or with 15
--     trolley_day          a day, then a trolley however it ended, is a day
--     trolley_carrier      the carrier of each move that it admitted, with the tick at its place in the list
--     trolley_unforgotten, trolley_same_ticks, trolley_paths, trolley_apart, trolley_travels    so all that
--                          is owed to a day is owed to its carriers and to those before
--     trolley_bound        each move that it admits starts within the bound
--     trolley_never_16, trolley_never_17    with a dwell of at most 255 no move of it is stopped as damaged,
--                          and with any none as stale
--     kept_is_day          any number of admissions and trolleys on an empty book are a day
--     asking_once          of any book: one answer to the question whether a move may go at a tick; `Asking`
--                          is the promise of `book::may_start`
--     asked_exactly, asked_refused_exactly    of any book: it is answered exactly where no check holds, and
--                          refused exactly with the first that does
--     yes_by_slots         of any book, where no check holds: yes exactly if no carrier held whose last tick
--                          is that tick or later forbids it
--     barred_by_slot       of any book: the slot answered forbids it, and none before does
--     asked_path           of any book, where no check holds: the move has a shortest path
--     yes_exactly          of any book, which has 64 slots: yes exactly if an admission with that tick as now
--                          gets that tick, where it is not refused with 15
--     first_yes, no_yes    of any book, which has 64 slots: the tick of an accepted admission is the first
--                          from now up at which the answer is yes, and if it is above 4,000,000,000 there is
--                          none
--     past_permits         on a day whoever is past at a tick permits it by the rule, too
--     yes_apart            on a day a carrier that starts with a yes meets and crosses nobody admitted so
--                          far, whatever shortest paths they take
--     asked_never_16, asked_never_17    on a day with a dwell of at most 255 the question is never refused as
--                          damaged, and with any never as stale
use mathlib.Core.Path.{◌≡◌, refl, ap, subst}
use mathlib.Core.Logic.{◌↔◌, ◌≢◌}
use mathlib.Core.List.{List, [], ◌∷◌, ◌++◌}
use Prim.Native.Nat.{ℕ, ◌-◌, ◌≤◌, ◌<◌}
use native.Mathlib.Omega.{arith}
use lib.ListN.{length}
use Rattle.std.specs.Prelude.{Option, Result}
use Rattle.hall.specs.declared.Refusal.{Refusal}
use Rattle.hall.specs.Limits.{carrier_limit, dwell_limit}
use Rattle.hall.specs.Floor.{Network, floor}
use Rattle.hall.specs.Path.{ShortestPath, Meet, Cross}
use Rattle.hall.specs.Safety.{Apart}
use Rattle.hall.specs.Job.{move_count}
use Rattle.hall.specs.Left.{zeroed}
use Rattle.hall.specs.Ticks.{SmallestFrom}
use Rattle.hall.specs.Stages.{First, None}
use Rattle.hall.specs.Said.{Said, accepted, refused}
use Rattle.hall.proofs.Stages.{refused_exactly, none_excludes}
use Rattle.hall.proofs.Compose.{first_before}
use Rattle.hall.proofs.Places.{asked_here, asked_later}
use Rattle.slots.specs.declared.Slot.{Slot}
use Rattle.slots.specs.declared.Book.{Book}
use Rattle.slots.specs.Record.{slot_count, slot_at, last_tick, forgetting}
use Rattle.slots.specs.Refusals.{clock_limit}
use Rattle.admission.specs.declared.Entry.{Entry}
use Rattle.admission.specs.declared.trolley.Stop.{Stop}
use Rattle.admission.specs.Questions.{full_book, call_question, admission_question}
use Rattle.admission.specs.Admission.{PermitsOne, Admission, said_answer}
use Rattle.admission.specs.Trolley.{Ending, all, stopped, refused_whole, said_ended, trolley_counts, to_the_end}
use Rattle.admission.specs.Trolley.{Ride, not_begun, begun}
use Rattle.admission.specs.Asking.{ForbiddenBy, Verdict, may, barred, Judgement, free_to_go, lowest}
use Rattle.admission.specs.Asking.{Asking, said_asked}
use Rattle.admission.proofs.Asking.{verdict_once, asked_unique}
use Rattle.admission.proofs.Unique.{answer_unique}
use Rattle.admission.proofs.RideUnique.{ride_unique, ended_unique}
use Rattle.admission.proofs.Riding.{empty_rides}
use Rattle.admission.proofs.Took.{took}
use Rattle.admission.proofs.Pairs.{tick_bound, alone_now}
use Rattle.days.specs.Day.{Call, Day, UnforgottenDay, Gets, Travels, Bounded}
use Rattle.days.proofs.Days.{remembers, unforgotten_day, same_ticks}
use Rattle.days.specs.Trolleys.{admitted_by, MoveOrRoom, trolley_calls, OfMove, RodeOn, Kept}
use Rattle.days.specs.Trolleys.{StopsAt, AdmitsAll, BoundedAt}
use Rattle.days.proofs.Apart as apart
use Rattle.days.proofs.Trolleys as trolleys
use Rattle.days.proofs.Later.{refused_by, stopped_by, all_by, stops_ride, stops_later}
use Rattle.days.proofs.Never.{no_16, no_17}
use Rattle.days.proofs.Asked as asked

-- ---- any book

-- how many entries an answer has
abbrev entries : Said Entry → ℕ
entries (accepted e) = 1
entries (refused n p) = 0

not_accepted : {n p : ℕ} {e : Entry} → refused n p ≡ accepted e → ⊥
not_accepted e = let none : ◌≡◌ {A = ℕ} 0 1 = ap entries e in omega arith

module _ (N : Network) {b left : Book} {now s g : ℕ} where
  pub admission_once : {other : Book} (r r' : Result Entry Refusal) →
      Admission N b now s g (said_answer r) left → Admission N b now s g (said_answer r') other →
      (r ≡ r') × (left ≡ other)
  admission_once = answer_unique N

  pub accepted_exactly : (said : Said Entry) → Admission N b now s g said left →
      ((e : Entry) × (said ≡ accepted e)) ↔ None (admission_question N b now s g)
  accepted_exactly (accepted e) a = ((λ h. a.fits), λ none. (e, refl))
  accepted_exactly (refused n p) a =
      ((λ h. absurd (not_accepted h.1)), λ none. absurd (none_excludes a.fits none))

  pub refused_exactly_then : (said : Said Entry) → Admission N b now s g said left →
      (n p : ℕ) → (said ≡ refused n p) ↔ First (admission_question N b now s g) n p
  refused_exactly_then said a = refused_exactly said a.fits

  pub admission_bound : {e : Entry} → length b.slots ≡ slot_count → Admission N b now s g (accepted e) left →
      Bounded b.dwell now (forgetting b.dwell now b.slots) e.tick
  admission_bound size a =
      let t = took N b.dwell refl a in
      record { not_late = tick_bound N b.dwell refl size t; at_once = alone_now N b.dwell refl size t }

-- ---- a day

module _ (N : Network) (w : ℕ) {calls : List Call} {ever : List Slot} {b : Book} (day : Day N w calls ever b) where
  pub day_unforgotten : UnforgottenDay N w calls ever
  day_unforgotten = unforgotten_day N w day

  pub day_same_ticks : {full : List Slot} → UnforgottenDay N w calls full → ever ≡ full
  day_same_ticks = same_ticks N w day

  pub day_paths : (p : ℕ) → p < length ever →
      (l : List ℕ) × ShortestPath (floor N) (slot_at ever p).start (slot_at ever p).goal l
  day_paths = apart.day_paths N w day

  -- of one admission more
  pub day_bound : {left : Book} {now s g : ℕ} {e : Entry} → Admission N b now s g (accepted e) left →
      Bounded w now (forgetting w now b.slots) e.tick
  day_bound a =
      let known = remembers N w day in
      rw known.dwell_is at (admission_bound N known.size a)

  pub day_never_16 : w ≤ dwell_limit → (t s g p : ℕ) → ¬ First (admission_question N b t s g) 16 p
  day_never_16 few t s g p = no_16 N w day t s g p few

  pub day_never_17 : (t s g p : ℕ) → ¬ First (admission_question N b t s g) 17 p
  day_never_17 = no_17 N w day

  -- one choice of shortest paths, a path for each carrier
  module _ (path : ℕ → List ℕ)
      (shortest : (p : ℕ) → p < length ever →
      ShortestPath (floor N) (slot_at ever p).start (slot_at ever p).goal (path p)) where
    pub day_apart : (p q : ℕ) → p < length ever → q < length ever → p ≢ q →
        Apart w path (λ i. (slot_at ever i).tick) p q
    day_apart = apart.day_apart N w day path shortest

    pub day_travels : (p : ℕ) → p < length ever → Travels w (slot_at ever p) (path p)
    day_travels = apart.day_travels N w day path shortest

-- ---- a trolley, put to any book

module _ (N : Network) (b : Book) (now : ℕ) (moves ticks : List ℕ) where
  pub trolley_once : (r r' : Result Unit Stop) {left other : Book} {ticks' others : List ℕ} →
      Ride N b now moves ticks (said_ended r) left ticks' → Ride N b now moves ticks (said_ended r') other others →
      (r ≡ r') × (left ≡ other) × (ticks' ≡ others)
  trolley_once = ended_unique N b now moves ticks

  module _ {end : Ending} {left : Book} {ticks' : List ℕ} (ride : Ride N b now moves ticks end left ticks') where
    pub trolley_same : {end' : Ending} {other : Book} {others : List ℕ} → Ride N b now moves ticks end' other others →
        (end ≡ end') × (left ≡ other) × (ticks' ≡ others)
    trolley_same = ride_unique N b now moves ticks ride

    pub trolley_refused_exactly : (n p : ℕ) → (end ≡ refused_whole n p) ↔ First (trolley_counts moves ticks) n p
    trolley_refused_exactly n p = (
      (λ e. refused_by N b now moves ticks (subst (λ (x : Ending). Ride N b now moves ticks x left ticks') e ride)),
      λ first. (trolley_same (not_begun first refl refl)).0,
    )

    pub trolley_stopped_exactly : (k n p : ℕ) →
        (end ≡ stopped k n p) ↔ (None (trolley_counts moves ticks) × StopsAt N b now moves k n p)
    trolley_stopped_exactly k n p = (
      (λ e. stopped_by N b now moves ticks (subst (λ (x : Ending). Ride N b now moves ticks x left ticks') e ride)),
      λ h. (trolley_same (stops_ride N b now moves ticks h.0 h.1)).0,
    )

    pub trolley_all_exactly : (end ≡ all) ↔ (None (trolley_counts moves ticks) × AdmitsAll N b now moves)
    trolley_all_exactly = (
      (λ e. all_by N b now moves ticks (subst (λ (x : Ending). Ride N b now moves ticks x left ticks') e ride)),
      λ h. (trolley_same (begun h.0 (to_the_end h.1.2) refl)).0,
    )

    pub trolley_empty : move_count moves ≡ 0 → carrier_limit ≤ length ticks →
        (end ≡ all) × (left ≡ b) × (ticks' ≡ zeroed carrier_limit ticks)
    trolley_empty none long = trolley_same (empty_rides N b now moves ticks none long)

    pub trolley_short : length ticks < carrier_limit → (end ≡ refused_whole 9 0) × (left ≡ b) × (ticks' ≡ ticks)
    trolley_short short = trolley_same (not_begun (asked_here short) refl refl)

    pub trolley_long : carrier_limit ≤ length ticks → carrier_limit < move_count moves →
        (end ≡ refused_whole 2 2) × (left ≡ b) × (ticks' ≡ zeroed carrier_limit ticks)
    trolley_long long many =
        trolley_same (not_begun (asked_later (λ short. omega arith) (asked_here many)) refl refl)

  -- its later moves, where the book has 64 slots, as every `Book` has
  pub trolley_later : length b.slots ≡ slot_count → {k n p : ℕ} {left : Book} {ticks' : List ℕ} →
      Ride N b now moves ticks (stopped k n p) left ticks' → 0 < k → MoveOrRoom n
  trolley_later size ride later = stops_later N b now moves size later (stopped_by N b now moves ticks ride).1

-- ---- a day, then a trolley

module _ (N : Network) (w : ℕ) {calls : List Call} {ever : List Slot} {b : Book} (day : Day N w calls ever b)
    (now : ℕ) (moves : List ℕ) {ticks ticks' : List ℕ} {end : Ending} {left : Book}
    (ride : Ride N b now moves ticks end left ticks') where
  pub trolley_day : RodeOn N w calls ever now moves ticks' (admitted_by moves end) left
  trolley_day = trolleys.trolley_day N w day now moves ride

  -- the carriers of the trolley and those before it
  abbrev pub everybody : List Slot
  everybody = trolley_day.carriers ++ ever

  pub trolley_carrier : (i : ℕ) → i < admitted_by moves end →
      OfMove N moves ticks' i (slot_at everybody (admitted_by moves end - 1 - i))
  trolley_carrier = trolleys.aboard_at trolley_day.aboard ever

  pub trolley_unforgotten : UnforgottenDay N w (trolley_calls now moves (admitted_by moves end) ++ calls) everybody
  trolley_unforgotten = day_unforgotten N w trolley_day.day

  pub trolley_same_ticks : {full : List Slot} →
      UnforgottenDay N w (trolley_calls now moves (admitted_by moves end) ++ calls) full → everybody ≡ full
  trolley_same_ticks = day_same_ticks N w trolley_day.day

  pub trolley_paths : (p : ℕ) → p < length everybody →
      (l : List ℕ) × ShortestPath (floor N) (slot_at everybody p).start (slot_at everybody p).goal l
  trolley_paths = day_paths N w trolley_day.day

  module _ (path : ℕ → List ℕ)
      (shortest : (p : ℕ) → p < length everybody →
      ShortestPath (floor N) (slot_at everybody p).start (slot_at everybody p).goal (path p)) where
    pub trolley_apart : (p q : ℕ) → p < length everybody → q < length everybody → p ≢ q →
        Apart w path (λ i. (slot_at everybody i).tick) p q
    trolley_apart = day_apart N w trolley_day.day path shortest

    pub trolley_travels : (p : ℕ) → p < length everybody → Travels w (slot_at everybody p) (path p)
    trolley_travels = day_travels N w trolley_day.day path shortest

  pub trolley_bound : (i : ℕ) → i < admitted_by moves end → BoundedAt N w b now moves ticks' i
  trolley_bound i l =
      let t = trolleys.put_at N w day now moves ride i l in (
        t.so_far,
        t.held,
        t.admits,
        rw t.tick_is (day_bound N w (trolleys.midway N w day now moves t.admits).day t.put),
      )

  pub trolley_never_16 : w ≤ dwell_limit → (k p : ℕ) → ¬ (end ≡ stopped k 16 p)
  trolley_never_16 few k p e =
      let s = ((trolley_stopped_exactly N b now moves ticks ride k 16 p).0 e).1 in
      day_never_16 N w (trolleys.midway N w day now moves s.admits).day few now _ _ p s.first

  pub trolley_never_17 : (k p : ℕ) → ¬ (end ≡ stopped k 17 p)
  trolley_never_17 k p e =
      let s = ((trolley_stopped_exactly N b now moves ticks ride k 17 p).0 e).1 in
      day_never_17 N w (trolleys.midway N w day now moves s.admits).day now _ _ p s.first

-- ---- any number of admissions and trolleys

pub kept_is_day : {N : Network} {w : ℕ} {b : Book} → Kept N w b →
    (calls : List Call) × (ever : List Slot) × Day N w calls ever b
kept_is_day = trolleys.kept_day

-- ---- may it go at this tick

module _ (N : Network) (b : Book) (t s g : ℕ) where
  pub asking_once : (r r' : Result (Option ℕ) Refusal) → Asking N b t s g (said_asked r) → Asking N b t s g (said_asked r') → r ≡ r'
  asking_once = asked_unique N

  pub asked_exactly : (said : Said Verdict) → Asking N b t s g said →
      ((v : Verdict) × (said ≡ accepted v)) ↔ None (call_question N b t s g)
  asked_exactly (accepted v) a = ((λ h. a.fits), λ none. (v, refl))
  asked_exactly (refused n p) a =
      ((λ h. absurd (asked.not_answered h.1)), λ none. absurd (none_excludes a.fits none))

  pub asked_refused_exactly : (said : Said Verdict) → Asking N b t s g said →
      (n p : ℕ) → (said ≡ refused n p) ↔ First (call_question N b t s g) n p
  asked_refused_exactly said a = refused_exactly said a.fits

  pub yes_by_slots : (v : Verdict) → Asking N b t s g (accepted v) →
      (v ≡ may) ↔ ((i : ℕ) → ¬ ForbiddenBy N b.dwell b.slots t s g i)
  yes_by_slots v a = (
    (λ e. none_bars (subst (Judgement N b.dwell b.slots t s g) e a.right)),
    λ none. verdict_once a.right (free_to_go none),
  )
    where
      none_bars : Judgement N b.dwell b.slots t s g may →
          (i : ℕ) → ¬ ForbiddenBy N b.dwell b.slots t s g i
      none_bars (free_to_go none) = none

  pub barred_by_slot : (i : ℕ) → Asking N b t s g (accepted (barred i)) →
      ForbiddenBy N b.dwell b.slots t s g i
      × ((j : ℕ) → j < i → ¬ ForbiddenBy N b.dwell b.slots t s g j)
  barred_by_slot i a = bars a.right
    where
      bars : Judgement N b.dwell b.slots t s g (barred i) → ForbiddenBy N b.dwell b.slots t s g i
          × ((j : ℕ) → j < i → ¬ ForbiddenBy N b.dwell b.slots t s g j)
      bars (lowest f first) = (f, first)

  pub asked_path : None (call_question N b t s g) → (l : List ℕ) × ShortestPath (floor N) s g l
  asked_path = asked.move_path N

  pub yes_exactly : length b.slots ≡ slot_count → {left : Book} (said : Said Entry) →
      Admission N b t s g said left → said ≢ refused 15 0 → Asking N b t s g (accepted may) ↔ Gets t said
  yes_exactly size = asked.yes_exactly N size

module _ (N : Network) {b left : Book} {now s g : ℕ} {e : Entry} (size : length b.slots ≡ slot_count)
    (a : Admission N b now s g (accepted e) left) where
  pub first_yes : e.tick ≤ clock_limit → SmallestFrom now (λ y. Asking N b y s g (accepted may)) e.tick
  first_yes = asked.first_yes N size a

  pub no_yes : clock_limit < e.tick → (y : ℕ) → now ≤ y → ¬ Asking N b y s g (accepted may)
  no_yes = asked.no_yes N size a

module _ (N : Network) (w : ℕ) {calls : List Call} {ever : List Slot} {b : Book} (day : Day N w calls ever b) where
  pub past_permits : (p : ℕ) → p < length ever → (s g t : ℕ) → last_tick w (slot_at ever p) < t →
      PermitsOne N w (slot_at ever p) s g t
  past_permits = asked.past_permits N w day

module _ (N : Network) (w : ℕ) {calls : List Call} {ever : List Slot} {b : Book} (day : Day N w calls ever b)
    {t s g : ℕ} where
  pub yes_apart : Asking N b t s g (accepted may) → (p : ℕ) → p < length ever → {path own : List ℕ} →
      ShortestPath (floor N) (slot_at ever p).start (slot_at ever p).goal path → ShortestPath (floor N) s g own →
      (¬ Meet w path (slot_at ever p).tick own t) × (¬ Cross w path (slot_at ever p).tick own t)
  yes_apart = asked.yes_apart N w day

  pub asked_never_16 : w ≤ dwell_limit → (p : ℕ) → ¬ First (call_question N b t s g) 16 p
  asked_never_16 few p f = day_never_16 N w day few t s g p (first_before (full_book b t ∷ []) f)

  pub asked_never_17 : (p : ℕ) → ¬ First (call_question N b t s g) 17 p
  asked_never_17 p f = day_never_17 N w day t s g p (first_before (full_book b t ∷ []) f)
