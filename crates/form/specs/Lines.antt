-- The lines of a text (rules 7.2 to 7.4). A text is a list of bytes, a byte a number. The digits of a number
-- are those of crate put, which any number has; that a number of a line has one to four is said by `Small`
-- and, of a count, by the same bound (rule 7.4).
--     Small          each number of a list has one to four digits: it is below 10,000
--     further        the further numbers of a line, each behind one space, and the line feed that closes it
--                    (rules 7.2 and 7.3)
--     entry_line      a line of numbers
--     count_line      a line of a section's word and its count
--     entry_lines     lines of numbers, one below the other
--     Counted        a text begins with a line of a word and a count; the rest is behind that line
--     Entered        a text begins with a line of so many numbers; the rest is behind that line
--     feeds          how many line feeds stand in a text
--     WholeLines     a text ends with a line feed, if it has any bytes (rule 7.2)
--     LineIs         the line of a text with a number, counted from 1 (rule 7.10), begins with these bytes:
--                    what stands before them is whole lines, one fewer than the number
use Rattle.std.specs.Prelude.{◌≡◌, List, [], ◌∷◌, ◌++◌, cond, ℕ, ◌+◌, ◌<◌, eqb, length}
use Rattle.put.specs.Digits.{digits}

abbrev pub Small : List ℕ → Type 0
Small [] = Unit
Small (a ∷ e) = (a < 10000) × Small e

-- the space is byte 32, the line feed byte 10
unfoldable pub further : List ℕ → List ℕ
further [] = 10 ∷ []
further (b ∷ e) = 32 ∷ (digits b ++ further e)

unfoldable pub entry_line : List ℕ → List ℕ
entry_line [] = further []
entry_line (a ∷ e) = digits a ++ further e

unfoldable pub count_line : (word : List ℕ) (count : ℕ) → List ℕ
count_line word count = word ++ further (count ∷ [])

unfoldable pub entry_lines : List (List ℕ) → List ℕ
entry_lines [] = []
entry_lines (e ∷ es) = entry_line e ++ entry_lines es

-- ---- at the front of a text

pub record Counted (word text : List ℕ) : Type 0 where
  pub n : ℕ
  pub rest : List ℕ
  pub small : n < 10000
  pub begins : text ≡ count_line word n ++ rest

pub record Entered (size : ℕ) (text : List ℕ) : Type 0 where
  pub e : List ℕ
  pub rest : List ℕ
  pub sized : length e ≡ size
  pub small : Small e
  pub begins : text ≡ entry_line e ++ rest

-- ---- line numbers

unfoldable pub feeds : List ℕ → ℕ
feeds [] = 0
feeds (b ∷ t) = cond (eqb b 10) 1 0 + feeds t

abbrev pub WholeLines : List ℕ → Type 0
WholeLines [] = Unit
WholeLines (b ∷ []) = b ≡ 10
WholeLines (b ∷ c ∷ t) = WholeLines (c ∷ t)

pub record LineIs (text : List ℕ) (number : ℕ) (line : List ℕ) : Type 0 where
  pub before : List ℕ
  pub after : List ℕ
  pub joins : text ≡ before ++ (line ++ after)
  pub whole : WholeLines before
  pub counts : number ≡ 1 + feeds before
