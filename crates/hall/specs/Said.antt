-- What an answer says, in the listed numbers (rules 8.20 and 8.29). Every question answers a `Result` whose
-- error is a refusal, and the promises are stated through what it says.
--     Said A          an answer: accepted, with its values; or refused, with the listed number and the place
--     Fits q s        the answer s fits the question q: it is accepted where nothing of q holds, and refused
--                     with the number and the place of the first that does
--     said_refusal     the number and the place of a refusal
--     said values r   what a result says, whose value is told by `values`
--     said_checked     what a check says; it has no values
--     Judged q c      what a check may answer
use Rattle.std.specs.Prelude.{ℕ, Result, Ok, Err}
use Rattle.hall.specs.declared.Refusal.{Refusal}
use Rattle.hall.specs.Numbers.{number_of}
use Rattle.hall.specs.Stages.{Question, First, None}

pub data Said (A : Type 0) : Type 0 where
  accepted : A → Said A
  refused : (number place : ℕ) → Said A

abbrev pub Fits : {A : Type 0} → Question → Said A → Type 0
Fits q (accepted a) = None q
Fits q (refused n p) = First q n p

abbrev pub said_refusal : {A : Type 0} → Refusal → Said A
said_refusal r = refused (number_of r.fault) r.place

abbrev pub said : {A B : Type 0} → (A → B) → Result A Refusal → Said B
said values (Ok a) = accepted (values a)
said values (Err r) = said_refusal r

abbrev pub said_checked : Result Unit Refusal → Said Unit
said_checked = said (λ u. u)

abbrev pub Judged : Question → Result Unit Refusal → Type 0
Judged q c = Fits q (said_checked c)
