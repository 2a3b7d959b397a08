-- What is asked of a book and a clock value before any network is looked at, in this order (rule 8.31). The
-- place of both is 0.
--     damaged_book     16
--     off_time         14, of the clock value t
--     book_question    16, then 14
use Rattle.std.specs.Prelude.{[], ◌∷◌, ℕ}
use Rattle.hall.specs.declared.Fault.TheVariants.{BadClock, BadBook}
use Rattle.hall.specs.Stages.{Stage, Question, asked}
use Rattle.slots.specs.declared.Book.{Book}
use Rattle.slots.specs.Refusals.{Damaged, OffTime}

abbrev pub damaged_book : Book → Stage
damaged_book b = asked BadBook 0 (Damaged b)

abbrev pub off_time : Book → ℕ → Stage
off_time b t = asked BadClock 0 (OffTime b t)

abbrev pub book_question : Book → ℕ → Question
book_question b t = damaged_book b ∷ off_time b t ∷ []
