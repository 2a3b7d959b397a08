-- What the program leaves on its output (section 10 of the rules).
--     Answered input before after
--                     where the bytes that an input has left are known: the answer to them, all of them, stands
--                     behind what the output held
use Rattle.std.specs.Prelude.{List, ℕ, Option, IfSome}
use Rattle.std.specs.Io.KnownBytes.{Appends}
use Rattle.report.specs.Answer.{AnswerText}

abbrev pub Answered : (input before after : Option (List ℕ)) → Type 0
Answered input before after =
    IfSome input (λ text. (printed : List ℕ) × AnswerText text printed × Appends before after printed)
