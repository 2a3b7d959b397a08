-- The decimal digits of a number are right: they write the number, each is a digit, the first is no zero
-- unless the number is 0, and a number has at most k of them, for k from 1, exactly when it is below 10 ^ k.
-- A number has more digits than its tenth by one, its last one (`ten_up`), as long as the bound on the count
-- of digits is above the number; so each law goes from a number's tenth to the number (`by_tenths`). Assumes
-- nothing.
--     below_ten, ten_up    the digits of a number below ten; those of any other, by its tenth's
--     two_digits, three_digits, four_digits    those of a number below 10,000, one by one
--     leading_digits       those of a number below 10,000 by powers of ten, each where the number has it
--     digit_behind         a digit behind those of a number writes ten times the number and the digit
--     digits_value         the digits write the number; digits_unique so they tell it
--     digits_some          there are some; digits_leading a first zero is alone
--     AllDigits            each byte of a list is a digit; digits_each those of a number are
--     digits_length        there are at most so many; digits_at_least there are at least so many
use mathlib.Core.Path.{◌≡◌, refl, sym, ◌∙◌, ap}
use mathlib.Core.Logic.{◌⊎◌, inl, inr}
use mathlib.Core.Bool.{Bool, true, false}
use mathlib.Core.List.{List, [], ◌∷◌, ◌++◌}
use Prim.Native.Nat.{ℕ, zero, suc, ◌+◌, ◌*◌, ◌-◌, ◌/◌, ◌%◌, ◌^◌, ◌≤◌, ◌<◌}
use native.Mathlib.Nat.{not-suc-le-zero, pow-succ', one-le-pow}
use native.Mathlib.Omega.{arith}
use borrow.Author.Tests.{ltb-true, ltb-false, lt-ltb, le-ltb}
use lib.Dec.{ltb}
use Rattle.std.specs.Prelude.{cond}
use lib.ListN.{length, get_or, length-append, get_or-append}
use Rattle.put.specs.Digits.{digit, digits_up_to, digits, value_of}

pub below_or_not : (n m : ℕ) → (n < m) ⊎ (m ≤ n)
below_or_not n m = by_test (ltb n m) refl
  where
    by_test : (b : Bool) → ltb n m ≡ b → (n < m) ⊎ (m ≤ n)
    by_test true e = inl (ltb-true n m e)
    by_test false e = inr (ltb-false n m e)

-- ---- the digits of a number and of its tenth

digits_one : (most n : ℕ) → n < 10 → digits_up_to (suc most) n ≡ digit n ∷ []
unfolding digits_up_to
digits_one most n h = rw (lt-ltb n 10 h)

digits_more : (most n : ℕ) → 10 ≤ n
    → digits_up_to (suc most) n ≡ digits_up_to most (n / 10) ++ digit (n % 10) ∷ []
unfolding digits_up_to
digits_more most n h = rw (le-ltb n 10 h)

-- a larger bound changes nothing
bound_enough : (most other n : ℕ) → n < most → n < other → digits_up_to most n ≡ digits_up_to other n
bound_enough zero other n h g = absurd (not-suc-le-zero h)
bound_enough (suc most) zero n h g = absurd (not-suc-le-zero g)
bound_enough (suc most) (suc other) n h g =
    elim (below_or_not n 10) [
      | inl b ↦ digits_one most n b ∙ sym (digits_one other n b)
      | inr b ↦
          let tenth = bound_enough most other (n / 10) (omega arith) (omega arith) in
          let last = ap (λ (l : List ℕ). l ++ digit (n % 10) ∷ []) tenth in
          digits_more most n b ∙ last ∙ sym (digits_more other n b)
    ]

pub below_ten : (n : ℕ) → n < 10 → digits n ≡ digit n ∷ []
unfolding digits
below_ten n h = digits_one n n h

pub ten_up : (n : ℕ) → 10 ≤ n → digits n ≡ digits (n / 10) ++ digit (n % 10) ∷ []
unfolding digits
ten_up n h =
    let tenth = bound_enough n (suc (n / 10)) (n / 10) (omega arith) (omega arith) in
    digits_more n n h ∙ ap (λ (l : List ℕ). l ++ digit (n % 10) ∷ []) tenth

pub two_digits : (n : ℕ) → 10 ≤ n → n < 100 → digits n ≡ digit (n / 10) ∷ digit (n % 10) ∷ []
two_digits n h l = ten_up n h ∙ ap (λ (t : List ℕ). t ++ digit (n % 10) ∷ []) (below_ten (n / 10) (omega arith))

pub three_digits : (n : ℕ) → 100 ≤ n → n < 1000 → digits n ≡ digit (n / 100) ∷ digit (n / 10 % 10) ∷ digit (n % 10) ∷ []
three_digits n h l =
    let first : n / 10 / 10 ≡ n / 100 = omega arith in
    ten_up n (omega arith)
    ∙ ap (λ (t : List ℕ). t ++ digit (n % 10) ∷ []) (two_digits (n / 10) (omega arith) (omega arith))
    ∙ ap (λ (q : ℕ). digit q ∷ digit (n / 10 % 10) ∷ digit (n % 10) ∷ []) first

pub four_digits : (n : ℕ) → 1000 ≤ n → n < 10000 →
    digits n ≡ digit (n / 1000) ∷ digit (n / 100 % 10) ∷ digit (n / 10 % 10) ∷ digit (n % 10) ∷ []
four_digits n h l =
    let first : n / 10 / 100 ≡ n / 1000 = omega arith in
    let second : n / 10 / 10 % 10 ≡ n / 100 % 10 = omega arith in
    ten_up n (omega arith)
    ∙ ap (λ (t : List ℕ). t ++ digit (n % 10) ∷ []) (three_digits (n / 10) (omega arith) (omega arith))
    ∙ (λ i. digit (first i) ∷ digit (second i) ∷ digit (n / 10 % 10) ∷ digit (n % 10) ∷ [])

-- the digit of a number below 10,000 at a power of ten, where the number has it
abbrev pub leading : (power n : ℕ) → List ℕ
leading power n = cond (ltb n power) [] (digit (n / power % 10) ∷ [])

pub leads : (power n : ℕ) → power ≤ n → leading power n ≡ digit (n / power % 10) ∷ []
leads power n h = rw (le-ltb n power h)

pub leads_not : (power n : ℕ) → n < power → leading power n ≡ []
leads_not power n h = rw (lt-ltb n power h)

pub leading_digits : (n : ℕ) → n < 10000 →
    digits n ≡ leading 1000 n ++ (leading 100 n ++ (leading 10 n ++ digit (n % 10) ∷ []))
leading_digits n h = cases (below_or_not n 10) (below_or_not n 100) (below_or_not n 1000)
  where
    first : n / 1000 % 10 ≡ n / 1000
    first = omega arith

    cases : (n < 10) ⊎ (10 ≤ n) → (n < 100) ⊎ (100 ≤ n) → (n < 1000) ⊎ (1000 ≤ n) →
        digits n ≡ leading 1000 n ++ (leading 100 n ++ (leading 10 n ++ digit (n % 10) ∷ []))
    cases (inl a) _ _ =
        let one : n % 10 ≡ n = omega arith in
        rw (leads_not 1000 n (omega arith), leads_not 100 n (omega arith), leads_not 10 n a, one) (below_ten n a)
    cases (inr a) (inl b) _ =
        let ten : n / 10 % 10 ≡ n / 10 = omega arith in
        rw (leads_not 1000 n (omega arith), leads_not 100 n b, leads 10 n a, ten) (two_digits n a b)
    cases (inr a) (inr b) (inl c) =
        let hundred : n / 100 % 10 ≡ n / 100 = omega arith in
        rw (leads_not 1000 n c, leads 100 n b, leads 10 n a, hundred) (three_digits n b c)
    cases (inr a) (inr b) (inr c) =
        rw (leads 1000 n c, leads 100 n b, leads 10 n a, first) (four_digits n c h)

pub digit_behind : (v d : ℕ) → 1 ≤ v → d < 10 → digits (v * 10 + d) ≡ digits v ++ digit d ∷ []
digit_behind v d some h =
    let tenth : (v * 10 + d) / 10 ≡ v = omega arith in
    let last : (v * 10 + d) % 10 ≡ d = omega arith in
    ten_up (v * 10 + d) (omega arith) ∙ (λ i. digits (tenth i) ++ digit (last i) ∷ [])

by_tenths : (P : ℕ → Type 0) → ((n : ℕ) → n < 10 → P n) → ((n : ℕ) → 10 ≤ n → P (n / 10) → P n) →
    (n : ℕ) → P n
by_tenths P one more n = below (suc n) n (omega arith)
  where
    below : (most n : ℕ) → n < most → P n
    below zero n h = absurd (not-suc-le-zero h)
    below (suc most) n h =
        elim (below_or_not n 10) [ inl b ↦ one n b | inr b ↦ more n b (below most (n / 10) (omega arith)) ]

-- ---- they are right

value_of_last : (before : ℕ) (bytes : List ℕ) (b : ℕ) →
    value_of before (bytes ++ b ∷ []) ≡ 10 * value_of before bytes + (b - 48)
unfolding value_of
value_of_last before [] b = refl
value_of_last before (x ∷ bytes) b = value_of_last (10 * before + (x - 48)) bytes b

pub digits_value : (n : ℕ) → value_of 0 (digits n) ≡ n
unfolding value_of
digits_value = by_tenths (λ n. value_of 0 (digits n) ≡ n) one more
  where
    one : (n : ℕ) → n < 10 → value_of 0 (digits n) ≡ n
    one n h = rw (below_ten n h) (omega arith)

    more : (n : ℕ) → 10 ≤ n → value_of 0 (digits (n / 10)) ≡ n / 10 → value_of 0 (digits n) ≡ n
    more n h e = rw (ten_up n h, value_of_last 0 (digits (n / 10)) (digit (n % 10)), e) (omega arith)

pub digits_unique : (m n : ℕ) → digits m ≡ digits n → m ≡ n
digits_unique m n e = sym (digits_value m) ∙ ap (value_of 0) e ∙ digits_value n

pub digits_some : (n : ℕ) → 0 < length (digits n)
digits_some n =
    elim (below_or_not n 10) [
      | inl b ↦ rw (below_ten n b) (omega arith)
      | inr b ↦ rw (ten_up n b, length-append) (omega arith)
    ]

pub digits_leading : (n : ℕ) → get_or (digits n) 0 0 ≡ 48 → n ≡ 0
digits_leading = by_tenths (λ n. get_or (digits n) 0 0 ≡ 48 → n ≡ 0) one more
  where
    one : (n : ℕ) → n < 10 → get_or (digits n) 0 0 ≡ 48 → n ≡ 0
    one n h e = let e' : 48 + n ≡ 48 = rw (below_ten n h) at e in omega arith

    more : (n : ℕ) → 10 ≤ n → (get_or (digits (n / 10)) 0 0 ≡ 48 → n / 10 ≡ 0) →
        get_or (digits n) 0 0 ≡ 48 → n ≡ 0
    more n h tenth e =
        let first = get_or-append (digits (n / 10)) (digit (n % 10) ∷ []) 0 0 (digits_some (n / 10)) in
        let none : n / 10 ≡ 0 = tenth (sym first ∙ ap (λ (l : List ℕ). get_or l 0 0) (sym (ten_up n h)) ∙ e) in
        omega arith

abbrev pub AllDigits : List ℕ → Type 0
AllDigits [] = Unit
AllDigits (b ∷ l) = (48 ≤ b) × (b ≤ 57) × AllDigits l

digits_and_one : (l : List ℕ) (d : ℕ) → d < 10 → AllDigits l → AllDigits (l ++ digit d ∷ [])
digits_and_one [] d h all = (omega arith, omega arith, tt)
digits_and_one (b ∷ l) d h all = (all.0, all.1, digits_and_one l d h all.2)

pub digits_each : (n : ℕ) → AllDigits (digits n)
digits_each = by_tenths (λ n. AllDigits (digits n)) one more
  where
    one : (n : ℕ) → n < 10 → AllDigits (digits n)
    one n h = rw (below_ten n h) (digits_and_one [] n h tt)

    more : (n : ℕ) → 10 ≤ n → AllDigits (digits (n / 10)) → AllDigits (digits n)
    more n h all = rw (ten_up n h) (digits_and_one (digits (n / 10)) (n % 10) (omega arith) all)

-- ---- how many there are

pub one_digit : (n : ℕ) → n < 10 → length (digits n) ≡ 1
one_digit n h = rw (below_ten n h)

pub one_more : (n : ℕ) → 10 ≤ n → length (digits n) ≡ length (digits (n / 10)) + 1
one_more n h = rw (ten_up n h, length-append)

pub digits_length : (k n : ℕ) → n < 10 ^ suc k → length (digits n) ≤ suc k
digits_length zero n h = rw (below_ten n (omega arith)) (omega arith)
digits_length (suc k) n h =
    elim (below_or_not n 10) [
      | inl b ↦ rw (below_ten n b) (omega arith)
      | inr b ↦
          let h' : n < 10 * 10 ^ suc k = rw pow-succ' at h in
          let tenth = digits_length k (n / 10) (omega arith) in
          rw (ten_up n b, length-append) (omega arith)
    ]

pub digits_at_least : (k n : ℕ) → 10 ^ k ≤ n → suc k ≤ length (digits n)
digits_at_least zero n h = digits_some n
digits_at_least (suc k) n h =
    let h' : 10 * 10 ^ k ≤ n = rw pow-succ' at h in
    let some = one-le-pow k 10 (omega arith) in
    let tenth = digits_at_least k (n / 10) (omega arith) in
    omega (arith, one_more n (omega arith))
