-- One answer fits each promise of the record. A yes or no that tells of a statement is the only one, there is
-- one lowest free slot, and a question has one first fault. The other promises are equations of the result.
-- Assumes nothing.
use mathlib.Core.Path.{◌≡◌, refl, ap}
use mathlib.Core.Bool.{Bool}
use mathlib.Core.List.{List}
use Prim.Native.Nat.{ℕ, ◌≤◌, ◌<◌}
use native.Mathlib.Nat.{le_antisymm}
use native.Mathlib.Decide.{dec_lt}
use native.Mathlib.Omega.{arith}
use Rattle.std.specs.Prelude.{Option, Some, Result}
use Rattle.hall.specs.declared.Refusal.{Refusal}
use Rattle.hall.specs.Rule.{Answers}
use Rattle.hall.specs.Said.{Judged}
use Rattle.hall.proofs.Answers.{answers_unique}
use Rattle.hall.proofs.Stages.{judged_unique}
use Rattle.slots.specs.declared.Slot.{Slot}
use Rattle.slots.specs.declared.Book.{Book}
use Rattle.slots.specs.Record.{StandsAt, LowestFree, AsFree, found, none_free}
use Rattle.slots.specs.Questions.{book_question}

pub stands_unique : (w t : ℕ) (c : Slot) (r r' : Bool) →
    Answers r (StandsAt w t c) → Answers r' (StandsAt w t c) → r ≡ r'
stands_unique w t c = answers_unique (StandsAt w t c)

pub lowest_once : {slots : List Slot} {i j : ℕ} → LowestFree slots i → LowestFree slots j → i ≡ j
lowest_once {i = i} {j = j} a c = le_antisymm (below (dec_lt j i)) (above (dec_lt i j))
  where
    below : Dec (j < i) → i ≤ j
    below (yes l) = absurd (a.lowest j l c.is_free)
    below (no l) = omega arith

    above : Dec (i < j) → j ≤ i
    above (yes l) = absurd (c.lowest i l a.is_free)
    above (no l) = omega arith

pub lowest_free_unique : (slots : List Slot) {r r' : Option ℕ} → AsFree slots r → AsFree slots r' → r ≡ r'
lowest_free_unique slots (found a) (found c) = ap Some (lowest_once a c)
lowest_free_unique slots (found {i} a) (none_free none) = absurd (none i a.inside a.is_free)
lowest_free_unique slots (none_free none) (found {i} c) = absurd (none i c.inside c.is_free)
lowest_free_unique slots (none_free none) (none_free none') = refl

pub check_book_unique : (b : Book) (t : ℕ) (c d : Result Unit Refusal) →
    Judged (book_question b t) c → Judged (book_question b t) d → c ≡ d
check_book_unique b t = judged_unique (book_question b t)
