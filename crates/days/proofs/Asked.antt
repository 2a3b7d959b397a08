-- Admissions against questions whether a move may go, both by their promises. An admission gets the first
-- tick from now up at which the answer is yes, on the book as it was lent. A carrier that forbids a tick
-- stands at it, so it stood at now; and one that stood at now and forbids a tick is not past it, since past
-- its last tick a carrier permits every tick (`past`, crate `admission`). The checks of the question pass at
-- every later tick that 14 lets pass, since fewer carriers are judged there. On a day a yes is owed what a
-- start tick is: what every carrier held permits, every carrier ever admitted does. Assumes nothing.
--     not_answered        no answer is both refused and a verdict
--     may_permits, permits_may    from now up, it may go exactly where every carrier held permits it
--     first_yes, no_yes    the tick of an admission is the first yes, where 14 lets it be asked about;
--                          otherwise there is none
--     yes_exactly          yes at t exactly if an admission at the clock t gets t, where it is not refused
--                          with 15
--     move_path            a move that the checks let pass has a shortest path
--     past_permits         on a day whoever is past permits every tick
--     yes_apart            on a day a move that may go at a tick meets and crosses nobody admitted so far
use mathlib.Core.Path.{◌≡◌, refl, ap, subst}
use mathlib.Core.Logic.{inl, inr, ◌↔◌, ◌≢◌}
use mathlib.Core.List.{List, [], ◌∷◌}
use Prim.Native.Nat.{ℕ, ◌≤◌, ◌<◌}
use native.Mathlib.Nat.{le_refl, le_antisymm}
use native.Mathlib.Decide.{dec_lt}
use native.Mathlib.Omega.{arith}
use lib.ListN.{length}
use Rattle.hall.specs.Floor.{Network, floor}
use Rattle.hall.specs.Path.{ShortestPath, Meet, Cross}
use Rattle.hall.specs.Stages.{once, FirstOf, here, later, FirstAt, FirstStage, First, None}
use Rattle.hall.specs.Ticks.{SmallestFrom}
use Rattle.hall.specs.Said.{Said, accepted, refused}
use Rattle.hall.proofs.Walks.{lanes_symmetric}
use Rattle.hall.proofs.Decide.{joined_or_not}
use Rattle.hall.proofs.Safe.{pair_safe}
use Rattle.hall.proofs.Demand.{shortest_path}
use Rattle.hall.proofs.Paths.{shortest_exists}
use Rattle.hall.proofs.Stages.{none_excludes}
use Rattle.hall.proofs.Compose.{none_append, first_split}
use Rattle.hall.proofs.Places.{asked_clear, none_each, loop_ends}
use Rattle.slots.specs.declared.Slot.{Slot}
use Rattle.slots.specs.declared.Book.{Book}
use Rattle.slots.specs.Record.{slot_count, slot_at, Standing, last_tick, forgetting}
use Rattle.slots.specs.Refusals.{clock_limit, OffTime}
use Rattle.slots.proofs.Slots.{still_held, held_still}
use Rattle.admission.specs.declared.Entry.{Entry}
use Rattle.admission.specs.Refusals.{Stale, start_shut, goal_shut, other_distance}
use Rattle.admission.specs.Questions.{stale_checks, full_book, call_question}
use Rattle.admission.specs.Admission.{PermitsOne, PermittedHeld, Admission}
use Rattle.admission.specs.Asking.{Verdict, may, Judgement, free_to_go, Asking}
use Rattle.admission.proofs.SoundCall.{walk_there, book_sound, not_back, not_beyond, move_clear, none_stale, call_tells}
use Rattle.admission.proofs.Admitting.{true_held}
use Rattle.admission.proofs.Took.{past, took}
use Rattle.admission.proofs.Pairs.{six}
use Rattle.days.specs.Day.{Call, Day, PermittedEver, Gets}
use Rattle.days.proofs.Days.{smallest_carry, remembers, held_permits}

-- how many verdicts an answer has
abbrev verdicts : Said Verdict → ℕ
verdicts (accepted v) = 1
verdicts (refused n p) = 0

pub not_answered : {n p : ℕ} {v : Verdict} → refused n p ≡ accepted v → ⊥
not_answered e = let none : ◌≡◌ {A = ℕ} 0 1 = ap verdicts e in omega arith

module _ (N : Network) (b : Book) (now s g : ℕ) (size : length b.slots ≡ slot_count) (sound : None (call_question N b now s g)) where
  abbrev kept : List Slot
  kept = forgetting b.dwell now b.slots

  permits_may : (y : ℕ) → now ≤ y → PermittedHeld N b.dwell kept s g y → Judgement N b.dwell b.slots y s g may
  unfolding PermittedHeld PermitsOne
  permits_may y l f = free_to_go (λ i h.
      let r = held_still b.dwell now b.slots i (record { held = h.standing.held; on_time = omega (arith, h.standing.on_time) }) in
      subst (λ (c : Slot). PermitsOne N b.dwell c s g y) r.1 (f i r.0) h.pair h.distances h.forbids)

  may_permits : (y : ℕ) → now ≤ y → Judgement N b.dwell b.slots y s g may → PermittedHeld N b.dwell kept s g y
  unfolding PermittedHeld PermitsOne
  may_permits y l (free_to_go none) i h p six f =
      let was = still_held b.dwell now b.slots i h in
      elim (dec_lt (last_tick b.dwell (slot_at kept i)) y) [
        | yes gone ↦ past N b.dwell (slot_at kept i) (true_held N b now s g size sound i h) s g y gone p six f
        | no stands ↦ none i (record {
          standing = record { held = was.0.held; on_time = subst (λ (c : Slot). y ≤ last_tick b.dwell c) was.1 (omega arith) };
          pair = p;
          distances = rw was.1 at six;
          forbids = rw was.1 at f;
        })
      ]

  -- ---- the checks at a later tick

  later_on_time : (y : ℕ) → now ≤ y → y ≤ clock_limit → ¬ OffTime b y
  later_on_time y l early (inl back) = omega (arith, not_back N b now s g sound)
  later_on_time y l early (inr late) = omega arith

  -- whoever is judged at a later tick is judged now
  stood : (y i : ℕ) → now ≤ y → Standing b.dwell y b.slots i → Standing b.dwell now b.slots i
  stood y i l h = record { held = h.held; on_time = omega (arith, h.on_time) }

  stale_before : (y i : ℕ) → now ≤ y → Stale N b.dwell y b.slots i → Stale N b.dwell now b.slots i
  stale_before y i l (start_shut h k) = start_shut (stood y i l h) k
  stale_before y i l (goal_shut h k) = goal_shut (stood y i l h) k
  stale_before y i l (other_distance h k) = other_distance (stood y i l h) k

  sound_later : (y : ℕ) → now ≤ y → y ≤ clock_limit → None (call_question N b y s g)
  sound_later y l early =
      asked_clear (book_sound N b now s g sound) (asked_clear (later_on_time y l early) (none_append (move_clear N b now s g sound)
      (loop_ends {s = stale_checks N b.dwell y b.slots} (record { clear = λ i h. ((λ k. ((none_each (stale_checks N b.dwell now b.slots) (none_stale N b now s g sound)).0.clear i h).0 (stale_before y i l k)), tt) }) (le_refl slot_count))))

-- ---- the first yes

module _ (N : Network) {b left : Book} {now s g : ℕ} {e : Entry} (size : length b.slots ≡ slot_count) (a : Admission N b now s g (accepted e) left) where
  -- the tick of an admission is the first at which it may go
  first_may : SmallestFrom now (λ y. Judgement N b.dwell b.slots y s g may) e.tick
  first_may =
      let t = took N b.dwell refl a in
      smallest_carry (permits_may N b now s g size t.sound) (may_permits N b now s g size t.sound) t.smallest

  pub first_yes : e.tick ≤ clock_limit → SmallestFrom now (λ y. Asking N b y s g (accepted may)) e.tick
  first_yes early = record {
    not_before = first_may.not_before;
    permitted = record { fits = sound_later N b now s g size (took N b.dwell refl a).sound e.tick first_may.not_before early; right = first_may.permitted };
    least = λ y l yes'. first_may.least y l yes'.right;
  }

  -- a tick above the limit is asked about in vain
  pub no_yes : clock_limit < e.tick → (y : ℕ) → now ≤ y → ¬ Asking N b y s g (accepted may)
  no_yes far y l yes' = omega (arith, first_may.least y l yes'.right, not_beyond N b y s g yes'.fits)

-- ---- yes at a tick is an admission at that clock

only_15 : {P : Type 0} {n p : ℕ} → First (once 15 0 P ∷ []) n p → (n ≡ 15) × (p ≡ 0)
only_15 {P} {n} {p} f = in_stage f.in_turn
  where
    at : FirstAt (once 15 0 P) n p → (n ≡ 15) × (p ≡ 0)
    at (here h) = (h.0, h.1.0)
    at (later k h) = absurd h

    in_stage : FirstStage (once 15 0 P ∷ []) n p → (n ≡ 15) × (p ≡ 0)
    in_stage (here h) = at h.holds
    in_stage (later k h) = absurd h

pub yes_exactly : (N : Network) {b left : Book} {t s g : ℕ} → length b.slots ≡ slot_count → (said : Said Entry) → Admission N b t s g said left → said ≢ refused 15 0
    → Asking N b t s g (accepted may) ↔ Gets t said
yes_exactly N {b} {left} {t} {s} {g} size said a free = (to said a free, back said a)
  where
    to : (said : Said Entry) → Admission N b t s g said left → said ≢ refused 15 0 → Asking N b t s g (accepted may) → Gets t said
    to (accepted x) a free yes' =
        let m = first_may N size a in
        le_antisymm (m.least t (le_refl t) yes'.right) m.not_before
    to (refused n p) a free yes' = cases (first_split (call_question N b t s g) (full_book b t ∷ []) a.fits)
      where
        cases : FirstOf (First (call_question N b t s g) n p) (None (call_question N b t s g)) (First (full_book b t ∷ []) n p) → ⊥
        cases (here f) = none_excludes f yes'.fits
        cases (later k f) = let e = only_15 f in free (λ i. refused (e.0 i) (e.1 i))

    back : (said : Said Entry) → Admission N b t s g said left → Gets t said → Asking N b t s g (accepted may)
    back (accepted x) a gets = record {
      fits = (took N b.dwell refl a).sound;
      right = subst (λ (y : ℕ). Judgement N b.dwell b.slots y s g may) gets (first_may N size a).permitted;
    }
    back (refused n p) a gets = absurd gets

-- ---- on a day

pub move_path : (N : Network) {b : Book} {t s g : ℕ} → None (call_question N b t s g) → (l : List ℕ) × ShortestPath (floor N) s g l
move_path N {b} {t} {s} {g} sound =
    elim (joined_or_not N s g) [
      | inl d ↦ shortest_exists d.1
      | inr none ↦ absurd (walk_there N s g (move_clear N b t s g sound) none)
    ]

-- the law on which forgetting rests
pub past_permits : (N : Network) (w : ℕ) {calls : List Call} {ever : List Slot} {b : Book} → Day N w calls ever b
    → (p : ℕ) → p < length ever → (s g t : ℕ) → last_tick w (slot_at ever p) < t → PermitsOne N w (slot_at ever p) s g t
past_permits N w {ever = ever} day p h s g t gone = past N w (slot_at ever p) ((remembers N w day).true_distance p h) s g t gone

module _ (N : Network) (w : ℕ) {calls : List Call} {ever : List Slot} {b : Book} (day : Day N w calls ever b) {t s g : ℕ} (yes' : Asking N b t s g (accepted may)) where
  permitted : PermittedEver N w ever s g t
  permitted =
      let known = remembers N w day in
      let sound = yes'.fits in
      held_permits N w known t s g (not_back N b t s g sound) t (le_refl t)
      (rw known.dwell_is at (may_permits N b t s g known.size sound t (le_refl t) yes'.right))

  -- whatever shortest paths the two take
  pub yes_apart : (p : ℕ) → p < length ever → {path own : List ℕ} → ShortestPath (floor N) (slot_at ever p).start (slot_at ever p).goal path → ShortestPath (floor N) s g own
      → (¬ Meet w path (slot_at ever p).tick own t) × (¬ Cross w path (slot_at ever p).tick own t)
  unfolding PermittedEver PermitsOne six
  yes_apart p h theirs ours =
      let c = slot_at ever p in
      let d = (remembers N w day).true_distance p h in
      let few = (call_tells N b t s g yes'.fits).few_nodes in
      let pair = six N few c.start c.goal s g c.distance ours.d d ours.short in
      pair_safe (lanes_symmetric N) pair.1 (shortest_path d theirs) ours.is_path w c.tick t (permitted p h pair.0 pair.1)
