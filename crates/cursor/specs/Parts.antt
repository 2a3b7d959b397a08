-- What a cursor's private steps answer (rules 7.3 to 7.5): each takes a part of a line off the front of what
-- is left of the text, or tells that no such part stands there.
--     ByteTaken      a byte of a kind was taken; `Taking` what the question for one answers
--     NoDigit        a text does not begin with a digit
--     DigitTaken     a digit was taken, by its value; `Digiting` what the question for it answers
--     Ended          no further digit belongs to a number: it is 0, or it has four, or none follows
--     NumberTaken    the digits of a number were taken, and all of them; `Numbering` what the question for it
--                    answers. It stands at the front of t: of what is left of the text, or of that with
--                    digits before it which were taken already
--     Spacing        what the question for a space answers
--     Feeding        what the question for a line feed answers: behind it is the next line
--     Wording        what the question for a word answers: it is taken if its letters are capital letters
use Rattle.std.specs.Prelude.{◌≡◌, ◌⊎◌, List, [], ◌∷◌, ◌++◌, Option, None, Some, ℕ, ◌≤◌, ◌<◌, length, drop}
use Rattle.put.specs.Digits.{digit, digits}
use Rattle.cursor.specs.declared.bytes.Kind.{Kind}
use Rattle.cursor.specs.declared.bytes.Kind.TheVariants.{Digit}
use Rattle.cursor.specs.declared.Cursor.{Cursor}
use Rattle.cursor.specs.Bytes.{kind_of, Capitals}
use Rattle.cursor.specs.Steps.{Behind}

-- ---- one byte

pub record ByteTaken (text : List ℕ) (c : Cursor) (kind : Kind) (b : ℕ) (next : Cursor) : Type 0 where
  pub of_kind : kind_of b ≡ kind
  pub begins : drop c.at text ≡ b ∷ drop next.at text
  pub within : next.at ≤ length text
  pub same_line : next.line ≡ c.line

abbrev pub Taking : (text : List ℕ) (c : Cursor) (kind : Kind) → Option (ℕ × Cursor) → Type 0
Taking text c kind (Some (b, next)) = ByteTaken text c kind b next
Taking text c kind None = (b : ℕ) (rest : List ℕ) → kind_of b ≡ kind → ¬ (drop c.at text ≡ b ∷ rest)

-- ---- numbers

abbrev pub NoDigit : List ℕ → Type 0
NoDigit [] = Unit
NoDigit (b ∷ t) = ¬ (kind_of b ≡ Digit)

pub record DigitTaken (text : List ℕ) (c : Cursor) (d : ℕ) (next : Cursor) : Type 0 where
  pub below : d < 10
  pub begins : drop c.at text ≡ digit d ∷ drop next.at text
  pub same_line : next.line ≡ c.line

abbrev pub Digiting : (text : List ℕ) (c : Cursor) → Option (ℕ × Cursor) → Type 0
Digiting text c (Some (d, next)) = DigitTaken text c d next
Digiting text c None = NoDigit (drop c.at text)

abbrev pub Ended : (n : ℕ) (rest : List ℕ) → Type 0
Ended n rest = (n ≡ 0) ⊎ (1000 ≤ n) ⊎ NoDigit rest

pub record NumberTaken (text t : List ℕ) (line n : ℕ) (next : Cursor) : Type 0 where
  pub small : n < 10000
  pub begins : t ≡ digits n ++ drop next.at text
  pub ends : Ended n (drop next.at text)
  pub same_line : next.line ≡ line

abbrev pub Numbering : (text t : List ℕ) (line : ℕ) → Option (ℕ × Cursor) → Type 0
Numbering text t line (Some (n, next)) = NumberTaken text t line n next
Numbering text t line None = NoDigit t

-- ---- other bytes: the space is byte 32, the line feed byte 10

abbrev pub Spacing : (text : List ℕ) (c : Cursor) → Option Cursor → Type 0
Spacing text c (Some next) =
    (drop c.at text ≡ 32 ∷ drop next.at text)
    × (next.line ≡ c.line)
Spacing text c None = (rest : List ℕ) → ¬ (drop c.at text ≡ 32 ∷ rest)

abbrev pub Feeding : (text : List ℕ) (c : Cursor) → Option Cursor → Type 0
Feeding text c (Some next) =
    (drop c.at text ≡ 10 ∷ drop next.at text)
    × Behind text c next (drop next.at text)
Feeding text c None = (rest : List ℕ) → ¬ (drop c.at text ≡ 10 ∷ rest)

abbrev pub Wording : (text word : List ℕ) (c : Cursor) → Option Cursor → Type 0
Wording text word c (Some next) =
    (drop c.at text ≡ word ++ drop next.at text)
    × Capitals word
    × (next.line ≡ c.line)
Wording text word c None = Capitals word → (rest : List ℕ) → ¬ (drop c.at text ≡ word ++ rest)
