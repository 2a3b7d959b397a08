-- At a later move than the first of a trolley only the move itself can be at fault, or room is lacking: what
-- is asked of the book, the clock value and the network passes again after an admission at the same clock
-- value on the same network (`settled_then`). Assumes nothing.
--     stops_later     the theorem
--     refused_by, stopped_by, all_by, stops_ride    how a trolley ended tells what the moves came to, and
--                                                   back
use mathlib.Core.Path.{◌≡◌, refl, ◌∙◌, ap}
use mathlib.Core.Logic.{inl, inr}
use mathlib.Core.List.{List, [], ◌∷◌, ◌++◌}
use Prim.Native.Nat.{ℕ, ◌<◌}
use native.Mathlib.Nat.{not-suc-le-zero}
use lib.ListN.{length, length-set}
use Rattle.hall.specs.declared.Fault.TheVariants.{Unreachable}
use Rattle.hall.specs.Limits.{carrier_limit}
use Rattle.hall.specs.Floor.{NoWalk, Network, floor}
use Rattle.hall.specs.Left.{filled}
use Rattle.hall.specs.Stages.{Question, FirstOf, here, later, First, None, asked, only_at}
use Rattle.hall.specs.Questions.{ends, network_question, move_ends, move_question}
use Rattle.hall.proofs.Stages.{none_excludes}
use Rattle.hall.proofs.Compose.{first_split}
use Rattle.hall.proofs.Left.{first_among}
use Rattle.slots.specs.declared.Book.{Book}
use Rattle.slots.specs.Record.{slot_count, forgetting}
use Rattle.slots.specs.Questions.{book_question}
use Rattle.slots.proofs.Slots.{forgetting_length}
use Rattle.admission.specs.Questions.{stale_slots, full_book, call_question, admission_question}
use Rattle.admission.specs.Trolley.{all, stopped, refused_whole, trolley_counts, Admits, none_yet, one_more, to_the_end, up_to}
use Rattle.admission.specs.Trolley.{Ride, not_begun, begun}
use Rattle.admission.specs.Steps.{Settled}
use Rattle.admission.proofs.SoundAfter.{settled_then}
use Rattle.days.specs.Trolleys.{MoveOrRoom, StopsAt, AdmitsAll}

module _ (N : Network) (b : Book) (t s g : ℕ) where
  -- the parts of the question
  abbrev of-ends : Question
  of-ends = only_at 0 (ends N.nodes N.closed (λ i. s) (λ i. g))

  abbrev of-walk : Question
  of-walk = asked Unreachable 0 (NoWalk (floor N) s g) ∷ []

  abbrev of_slots : Question
  of_slots = stale_slots N b.dwell t b.slots ∷ []

  module _ (known : Settled N b t) {n p : ℕ} where
    in_ends : FirstOf (First (network_question N) n p) (None (network_question N)) (First of-ends n p) → MoveOrRoom n
    in_ends (here k) = absurd (none_excludes k known.of_network)
    in_ends (later m k) = first_among MoveOrRoom {q = of-ends} ((inl refl, tt), ((inr (inl refl), tt), ((inr (inr (inl refl)), tt), tt))) k

    in_move : FirstOf (First (move_ends N s g) n p) (None (move_ends N s g)) (First of-walk n p) → MoveOrRoom n
    in_move (here k) = in_ends (first_split (network_question N) of-ends k)
    in_move (later m k) = first_among MoveOrRoom {q = of-walk} ((inr (inr (inr (inl refl))), tt), tt) k

    behind_book : FirstOf (First (move_question N s g) n p) (None (move_question N s g)) (First of_slots n p) → MoveOrRoom n
    behind_book (here k) = in_move (first_split (move_ends N s g) of-walk k)
    behind_book (later m k) = absurd (none_excludes k known.of_slots)

    in_call : FirstOf (First (book_question b t) n p) (None (book_question b t)) (First (move_question N s g ++ of_slots) n p) → MoveOrRoom n
    in_call (here k) = absurd (none_excludes k known.of_book)
    in_call (later m k) = behind_book (first_split (move_question N s g) of_slots k)

    in_admission : FirstOf (First (call_question N b t s g) n p) (None (call_question N b t s g)) (First (full_book b t ∷ []) n p) → MoveOrRoom n
    in_admission (here k) = in_call (first_split (book_question b t) (move_question N s g ++ of_slots) k)
    in_admission (later m k) = first_among MoveOrRoom {q = full_book b t ∷ []} ((inr (inr (inr (inr refl))), tt), tt) k

    settled_of_move : First (admission_question N b t s g) n p → MoveOrRoom n
    settled_of_move f = in_admission (first_split (call_question N b t s g) (full_book b t ∷ []) f)

module _ (N : Network) (b : Book) (now : ℕ) (moves : List ℕ) (size : length b.slots ≡ slot_count) where
  -- the book between two moves has 64 slots
  held_size : {k : ℕ} {ticks : List ℕ} {held : Book} → Admits N b now moves k ticks held → length held.slots ≡ slot_count
  held_size none_yet = size
  held_size (one_more {held = held} {e = e} m before a) =
      ap (λ (l : Book). length l.slots) a.outcome.left_is
      ∙ length-set (forgetting held.dwell now held.slots) e.slot _
      ∙ forgetting_length held.dwell now held.slots
      ∙ held_size before

  later_settled : {k : ℕ} {ticks : List ℕ} {held : Book} → Admits N b now moves k ticks held → 0 < k → Settled N held now
  later_settled none_yet l = absurd (not-suc-le-zero l)
  later_settled (one_more m before a) l = settled_then N (held_size before) a

  pub stops_later : {k n p : ℕ} → 0 < k → StopsAt N b now moves k n p → MoveOrRoom n
  stops_later l s = settled_of_move N s.held now _ _ (later_settled s.admits l) s.first

-- ---- how a trolley ends, read off its promise

module _ (N : Network) (b : Book) (now : ℕ) (moves ticks : List ℕ) where
  pub refused_by : {n p : ℕ} {left : Book} {ticks' : List ℕ} → Ride N b now moves ticks (refused_whole n p) left ticks' → First (trolley_counts moves ticks) n p
  refused_by (not_begun f same list) = f
  refused_by (begun _ x _) = elim x [ ]

  pub stopped_by : {k n p : ℕ} {left : Book} {ticks' : List ℕ} → Ride N b now moves ticks (stopped k n p) left ticks' → None (trolley_counts moves ticks) × StopsAt N b now moves k n p
  stopped_by (begun none (up_to {starts = starts} {held = held} l before a) e) = (none, record { starts = starts; held = held; is_move = l; admits = before; first = a.fits })

  pub all_by : {left : Book} {ticks' : List ℕ} → Ride N b now moves ticks all left ticks' → None (trolley_counts moves ticks) × AdmitsAll N b now moves
  all_by (begun none (to_the_end {starts = starts} {left = left} before) e) = (none, (starts, left, before))

  pub stops_ride : {k n p : ℕ} → None (trolley_counts moves ticks) → (s : StopsAt N b now moves k n p) → Ride N b now moves ticks (stopped k n p) s.held (filled s.starts carrier_limit ticks)
  stops_ride none s = begun none (up_to s.is_move s.admits (record { fits = s.first; outcome = refl })) refl
