-- The number at the front of a text is one. Two numbers whose digits begin the same text, the second one's
-- ending at a break, are one, unless the first one's go on: and they do not where a number has four digits,
-- or is 0, or no digit follows. The laws of digits are those of crate put. Assumes nothing.
--     no_number      no number stands where no digit does
--     number_once    the number at the front of a text is the one that ends there
use mathlib.Core.Path.{◌≡◌, refl, sym, ◌∙◌, ap, subst}
use mathlib.Core.Logic.{inl, inr}
use mathlib.Core.List.{List, [], ◌∷◌, ◌++◌, append-nil}
use Prim.Native.Nat.{ℕ, ◌≤◌, ◌<◌}
use native.Mathlib.Omega.{arith}
use lib.ListN.{length, length-append}
use Rattle.put.specs.Digits.{digits}
use Rattle.put.proofs.Digits.{below_ten, digits_unique, digits_some, AllDigits, digits_each, digits_length}
use Rattle.put.proofs.Digits.{digits_at_least}
use Rattle.form.proofs.Cuts.{Breaks, head_same, tail_same, never_empty, zero_alone}
use Rattle.cursor.specs.Parts.{NoDigit, Ended}
use Rattle.cursor.proofs.ByteKinds.{kind_digit}

pub begins_digit : (w r t : List ℕ) → 1 ≤ length w → AllDigits w → t ≡ w ++ r → ¬ NoDigit t
begins_digit [] r t l a e none = let x : ⊥ = omega arith in x
begins_digit (b ∷ w) r t l a e none = subst NoDigit e none (kind_digit b a.0 a.1)

pub no_number : (t : List ℕ) → NoDigit t → (n : ℕ) (r : List ℕ) → ¬ (t ≡ digits n ++ r)
no_number t none n r e = begins_digit (digits n) r t (digits_some n) (digits_each n) e none

-- ---- one number at the front

-- the digits u, which end at a break, are the digits w and those behind them
pub record GoesOn (w r u s : List ℕ) : Type 0 where
  pub more : List ℕ
  pub goes : u ≡ w ++ more
  pub left : r ≡ more ++ s
  pub all : AllDigits more

pub goes_on : (w u r s : List ℕ) → AllDigits w → AllDigits u → Breaks s → w ++ r ≡ u ++ s → GoesOn w r u s
goes_on [] u r s a b k e = record { more = u; goes = refl; left = e; all = b }
goes_on (c ∷ w) [] r [] a b k e = never_empty e
goes_on (c ∷ w) [] r (d ∷ s) a b k e =
    let h = head_same e in
    let l = a.0 in
    absurd (let x : ⊥ = omega arith in x)
goes_on (c ∷ w) (d ∷ u) r s a b k e =
    let o = goes_on w u r s a.2 b.2 k (tail_same e) in
    let h = sym (head_same e) in
    let g = o.goes in
    record { more = o.more; goes = (λ i. h i ∷ g i); left = o.left; all = o.all }

pub number_once : (n m : ℕ) (r s : List ℕ) → m < 10000 → Ended n r → Breaks s
    → digits n ++ r ≡ digits m ++ s → (m ≡ n) × (r ≡ s)
number_once n m r s small ended breaks e =
    stop (goes_on (digits n) (digits m) r s (digits_each n) (digits_each m) breaks e)
  where
    none : (more : List ℕ) → digits m ≡ digits n ++ more → r ≡ more ++ s → AllDigits more → Ended n r
        → more ≡ []
    none [] goes left all x = refl
    none (b ∷ more) goes left all (inl z) =
        let alone = ap digits z ∙ below_ten 0 (omega arith) in
        zero_alone m (b ∷ more) (goes ∙ ap (λ (w : List ℕ). w ++ (b ∷ more)) alone)
    none (b ∷ more) goes left all (inr (inl f)) =
        let long = ap length goes ∙ length-append (digits n) (b ∷ more) in
        absurd (let x : ⊥ = omega (arith, long, digits_at_least 3 n f, digits_length 3 m small) in x)
    none (b ∷ more) goes left all (inr (inr x)) =
        absurd (begins_digit (b ∷ more) s r (omega arith) all left x)

    stop : GoesOn (digits n) r (digits m) s → (m ≡ n) × (r ≡ s)
    stop o =
        let empty = none o.more o.goes o.left o.all ended in
        let same = rw empty at o.goes ∙ append-nil (digits n) in
        (digits_unique m n same, rw empty at o.left)
