-- A number in decimal, as job texts have it and as it is printed (rules 7.4 and 10.4): without a leading
-- zero, with as many digits as it needs.
--     digit     the byte of a digit: `0` is 48
--     digits    the digits of a number, the most significant first: one digit for a number below ten, and
--               otherwise the digits of its tenth and then its last one. `digits_up_to` is the same with a
--               bound on how many digits there are, and a number has no more digits than its value and one
--     value_of   the number that digits write, after those that wrote `before` already
--     field     a number and the byte behind it
-- `digits_value`, `digits_each` and `digits_leading` (proofs/Digits.antt) say that they are right: the digits
-- of n write n, each is a digit, and the first is no zero unless n is 0.
use Rattle.std.specs.Prelude.{ℕ, zero, suc, ◌+◌, ◌*◌, ◌-◌, ◌/◌, ◌%◌, cond, List, [], ◌∷◌, ◌++◌, ltb}

abbrev pub digit : ℕ → ℕ
digit d = 48 + d

unfoldable pub digits_up_to : (most : ℕ) → ℕ → List ℕ
digits_up_to zero n = []
digits_up_to (suc most) n = cond (ltb n 10) (digit n ∷ []) (digits_up_to most (n / 10) ++ digit (n % 10) ∷ [])

unfoldable pub digits : ℕ → List ℕ
digits n = digits_up_to (suc n) n

unfoldable pub value_of : (before : ℕ) → List ℕ → ℕ
value_of before [] = before
value_of before (b ∷ bytes) = value_of (10 * before + (b - 48)) bytes

unfoldable pub field : ℕ → (after : ℕ) → List ℕ
field n after = digits n ++ after ∷ []
