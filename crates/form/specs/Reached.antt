-- How far one has come that goes through a text line by line, as a reader does: what its contracts cite
-- (rules 7.8 to 7.12). The laws of each step are in proofs/Reached.antt and proofs/Tables.antt.
--     Reached      the lines before `line` are fine and lead to this stand, and the rest of the text is
--                  behind them
--     Collected    k entries of a section are behind, their numbers are the first ones in a list, and this is
--                  the rest of the text; what else is in the list does not matter
use Rattle.std.specs.Prelude.{◌≡◌, List, ◌++◌, ℕ, suc, ◌*◌, length, take}
use Rattle.form.specs.Sections.{Section, Form, Content, numbers_in}
use Rattle.form.specs.Contents.{written, line_count}
use Rattle.form.specs.Stands.{Stand, within, contents, Fine}

pub record Reached (F : Form) (text : List ℕ) (st : Stand) (rest : List ℕ) (line : ℕ) : Type 0 where
  pub fine : Fine F st
  pub begins : text ≡ written (contents st) ++ rest
  pub here : line ≡ suc (line_count (contents st))

pub record Collected (F : Form) (text : List ℕ) (read : List Content) (s : Section) (count : ℕ) (left : Form)
    (k : ℕ) (table rest : List ℕ) (line : ℕ) : Type 0 where
  pub es : List (List ℕ)
  pub reached : Reached F text (within read s count es left) rest line
  pub counted : length es ≡ k
  pub stored : numbers_in es ≡ take (s.size * k) table
