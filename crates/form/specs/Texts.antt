-- When a text is accepted, and exactly when it is refused, with which number and at which line (rules 7.8 to
-- 7.12 and 8.21). It is said of written lines alone, without the way in which a text is read: the lines above
-- the faulty one have their form and pass their checks, and the rest begins with a line that does not. In a
-- line the form is asked for first, then its checks in their order.
--     WrittenForm    the text is the written form of contents without a fault
--     Stops          the first line of the rest is faulty: there is no line of the expected form at its
--                    front, and it is not the end where the text may end (so too where a line or its line
--                    feed is missing, or bytes are left over); or there is one, and it fails a check
--     Refused        the lines before this line are fine, and it is faulty. Lines are counted from 1
--     Reads          what a text says: accepted, with its contents; or refused, with the number and the line
use Rattle.std.specs.Prelude.{◌≡◌, List, [], ◌++◌, ℕ, suc}
use Rattle.hall.specs.declared.Fault.TheVariants.{Malformed}
use Rattle.hall.specs.Numbers.{number_of}
use Rattle.hall.specs.Said.{Said, accepted, refused}
use Rattle.form.specs.Sections.{Form, Content}
use Rattle.form.specs.Contents.{written, line_count, Sound}
use Rattle.form.specs.Stands.{Stand, contents, NextLine, Faulty, Fine, Ends}

pub record WrittenForm (F : Form) (text : List ℕ) (c : List Content) : Type 0 where
  pub writes : text ≡ written c
  pub sound : Sound [] F c

pub data Stops (F : Form) (st : Stand) (rest : List ℕ) (number : ℕ) : Type 0 where
  formless : number ≡ number_of Malformed
      → ((line : List ℕ) (to : Stand) (more : List ℕ) → NextLine F st line to → ¬ (rest ≡ line ++ more))
      → ¬ (Ends F st × (rest ≡ []))
      → Stops F st rest number
  failing : (line : List ℕ) (to : Stand) (more : List ℕ) → NextLine F st line to → rest ≡ line ++ more
      → Faulty to number
      → Stops F st rest number

pub record Refused (F : Form) (text : List ℕ) (number line : ℕ) : Type 0 where
  pub stand : Stand
  pub rest : List ℕ
  pub begins : text ≡ written (contents stand) ++ rest
  pub fine : Fine F stand
  pub stops : Stops F stand rest number
  pub here : line ≡ suc (line_count (contents stand))

abbrev pub Reads : Form → (text : List ℕ) → Said (List Content) → Type 0
Reads F text (accepted c) = WrittenForm F text c
Reads F text (refused number line) = Refused F text number line
