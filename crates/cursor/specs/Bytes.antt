-- The bytes of a job text (rule 7.5).
--     kind_of      the kind of a byte, one of five: digit, space, line feed, capital letter, other
--     Capitals    each letter of a word is a capital letter
use Rattle.std.specs.Prelude.{List, [], ◌∷◌, ◌&&◌, cond, ℕ, ◌≤◌, leb, eqb}
use Rattle.cursor.specs.declared.bytes.Kind.{Kind}
use Rattle.cursor.specs.declared.bytes.Kind.TheVariants.{Digit, Space, LineFeed, Capital, Other}

-- from `0` to `9`, the space, the line feed, from `A` to `Z`
unfoldable pub kind_of : ℕ → Kind
kind_of b =
    cond (leb 48 b && leb b 57) Digit
    (cond (eqb b 32) Space
    (cond (eqb b 10) LineFeed
    (cond (leb 65 b && leb b 90) Capital
    Other)))

abbrev pub Capitals : List ℕ → Type 0
Capitals [] = Unit
Capitals (b ∷ word) = (65 ≤ b) × (b ≤ 90) × Capitals word
