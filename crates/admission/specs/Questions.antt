-- The questions to a book, with a network and a move, as lists of stages, in the order in which their checks
-- are made (rules 8.31 and 8.34). The place is the slot for 17, 0 for 15, and for the others that of the
-- crates below.
--     stale_checks      17, of the slot at a place
--     stale_slots       17, slot by slot
--     full_book         15
--     call_question     a book, a clock value or a tick, and a move on a network: 16, 14, those of the network
--                      and the move, 17. It is the whole question whether the move may go at the tick
--     admission_question   the same, and 15 last
use Rattle.std.specs.Prelude.{List, [], ◌∷◌, ◌++◌, ℕ}
use Rattle.hall.specs.declared.Fault.TheVariants.{NoSlot, StaleSlot}
use Rattle.hall.specs.Floor.{Network}
use Rattle.hall.specs.Stages.{◌when◌, Stage, Question, asked, at_each}
use Rattle.hall.specs.Questions.{move_question}
use Rattle.slots.specs.declared.Slot.{Slot}
use Rattle.slots.specs.declared.Book.{Book}
use Rattle.slots.specs.Record.{slot_count}
use Rattle.slots.specs.Questions.{book_question}
use Rattle.admission.specs.Refusals.{Stale, Full}

abbrev pub stale_checks : Network → (w t : ℕ) → List Slot → Stage
stale_checks N w t slots = StaleSlot when Stale N w t slots ∷ []

abbrev pub stale_slots : Network → (w t : ℕ) → List Slot → Stage
stale_slots N w t slots = at_each slot_count (stale_checks N w t slots)

abbrev pub full_book : Book → ℕ → Stage
full_book b t = asked NoSlot 0 (Full b.dwell t b.slots)

abbrev pub call_question : Network → Book → (t s g : ℕ) → Question
call_question N b t s g =
    book_question b t ++ (move_question N s g ++ (stale_slots N b.dwell t b.slots ∷ []))

abbrev pub admission_question : Network → Book → (now s g : ℕ) → Question
admission_question N b now s g = call_question N b now s g ++ (full_book b now ∷ [])
