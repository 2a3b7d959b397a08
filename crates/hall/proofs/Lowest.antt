-- What can be decided of each number can be sought: of the numbers below n either a lowest one has the
-- property or none has. So a statement that some number below n has it, or that all have it, can be decided.
-- By induction over n: the lowest below n stays, or n itself is it. Assumes nothing.
--     Lowest P n      the lowest number below n with the property P, or that there is none
--     Below P n       a number below n with the property P
use mathlib.Core.Path.{◌≡◌, sym, subst}
use mathlib.Core.Logic.{◌⊎◌, inl, inr}
use Prim.Native.Nat.{ℕ, zero, suc, ◌≤◌, ◌<◌}
use native.Mathlib.Nat.{not-suc-le-zero, le_refl}
use native.Mathlib.Decide.{dec_lt, dec_le}
use native.Mathlib.Omega.{arith}

-- ---- decided statements together

pub dec_and : {A B : Type 0} → Dec A → Dec B → Dec (A × B)
dec_and (yes a) (yes b) = yes (a, b)
dec_and (yes a) (no k) = no (λ h. k h.1)
dec_and (no k) d = no (λ h. k h.0)

pub dec_or : {A B : Type 0} → Dec A → Dec B → Dec (A ⊎ B)
dec_or (yes a) d = yes (inl a)
dec_or (no k) (yes b) = yes (inr b)
dec_or (no k) (no l) = no (neither k l)
  where
    neither : {A B : Type 0} → ¬ A → ¬ B → A ⊎ B → ⊥
    neither k l (inl a) = k a
    neither k l (inr b) = l b

pub dec_not : {A : Type 0} → Dec A → Dec (¬ A)
dec_not (yes a) = no (λ k. k a)
dec_not (no k) = yes k

-- ---- the lowest number

pub data Lowest (P : ℕ → Type 0) (n : ℕ) : Type 0 where
  found : (k : ℕ) → k < n → P k → ((i : ℕ) → i < k → ¬ P i) → Lowest P n
  nowhere : ((i : ℕ) → i < n → ¬ P i) → Lowest P n

module _ {P : ℕ → Type 0} (decide : (k : ℕ) → Dec (P k)) where
  one_more : (n : ℕ) → Lowest P n → Dec (P n) → Lowest P (suc n)
  one_more n (found k l p first) d = found k (omega arith) p first
  one_more n (nowhere none) (yes p) = found n (le_refl (suc n)) p none
  one_more n (nowhere none) (no h) = nowhere (λ i l. last i l (dec_lt i n))
    where
      last : (i : ℕ) → i < suc n → Dec (i < n) → ¬ P i
      last i l (yes k) = none i k
      last i l (no k) = let e : i ≡ n = omega arith in subst (λ (x : ℕ). ¬ P x) (sym e) h

  pub lowest_below : (n : ℕ) → Lowest P n
  lowest_below zero = nowhere (λ i l. absurd (not-suc-le-zero l))
  lowest_below (suc n) = one_more n (lowest_below n) (decide n)

  -- where some number has the property there is a lowest one
  pub lowest_of : (m : ℕ) → P m → (k : ℕ) × P k × ((i : ℕ) → P i → k ≤ i)
  lowest_of m p = cases (lowest_below (suc m))
    where
      least : (k : ℕ) → ((i : ℕ) → i < k → ¬ P i) → (i : ℕ) → P i → Dec (k ≤ i) → k ≤ i
      least k first i q (yes l) = l
      least k first i q (no l) = absurd (first i (omega arith) q)

      cases : Lowest P (suc m) → (k : ℕ) × P k × ((i : ℕ) → P i → k ≤ i)
      cases (found k l q first) = (k, q, λ i r. least k first i r (dec_le k i))
      cases (nowhere none) = absurd (none m (le_refl (suc m)) p)

-- ---- some number, all numbers

pub record Below (P : ℕ → Type 0) (n : ℕ) : Type 0 where
  pub number : ℕ
  pub below : number < n
  pub has : P number

module _ {P : ℕ → Type 0} (decide : (k : ℕ) → Dec (P k)) where
  pub dec_some : (n : ℕ) → Dec (Below P n)
  dec_some n = cases (lowest_below decide n)
    where
      cases : Lowest P n → Dec (Below P n)
      cases (found k l p first) = yes (record { number = k; below = l; has = p })
      cases (nowhere none) = no (λ b. none b.number b.below b.has)
