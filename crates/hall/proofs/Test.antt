-- Tests that compute, each with what it says when it passes and when it fails: `Dec`, with the Boolean apart
-- from the proofs, so that a closed test computes without them. Assumes nothing.
use mathlib.Core.Path.{◌≡◌, sym, subst}
use mathlib.Core.Logic.{◌⊎◌, inl, inr}
use mathlib.Core.Bool.{Bool, true, false, not}
use Prim.Native.Nat.{ℕ, zero, suc, ◌≤◌, ◌<◌}
use native.Mathlib.Nat.{not-suc-le-zero, le_refl}
use native.Mathlib.Decide.{ℕ_discrete}
use native.Mathlib.Omega.{arith}
use lib.Dec.{T, leb, eqb, leb→le, nleb→lt, eqb→eq, eqb_refl, T_not}

pub record Test (A : Type 0) : Type 0 where
  pub pass : Bool
  pub sound : T pass → A
  pub fails : T (not pass) → A → ⊥

-- a test decides
pub dec : {A : Type 0} → Test A → Dec A
dec {A} t = cases t.pass t.sound t.fails
  where
    cases : (b : Bool) → (T b → A) → (T (not b) → A → ⊥) → Dec A
    cases true holds fails = yes (holds tt)
    cases false holds fails = no (fails tt)

abbrev pub both : Bool → Bool → Bool
both true b = b
both false b = false

abbrev pub either : Bool → Bool → Bool
either true b = true
either false b = b

pub both_is : (a b : Bool) → T (both a b) → T a × T b
both_is true b t = (tt, t)
both_is false b t = absurd t

pub both_not : {A B : Type 0} (a b : Bool) → (T (not a) → A → ⊥) → (T (not b) → B → ⊥) → T (not (both a b)) → A × B → ⊥
both_not true b f g t h = g t h.1
both_not false b f g t h = f tt h.0

pub either_is : {A B : Type 0} (a b : Bool) → (T a → A) → (T b → B) → T (either a b) → A ⊎ B
either_is true b f g t = inl (f tt)
either_is false b f g t = inr (g t)

pub either_not : {A B : Type 0} (a b : Bool) → (T (not a) → A → ⊥) → (T (not b) → B → ⊥) → T (not (either a b)) → A ⊎ B → ⊥
either_not true b f g t h = t
either_not false b f g t (inl x) = f tt x
either_not false b f g t (inr x) = g t x

pub not_is : {A : Type 0} (a : Bool) → (T a → A) → T (not (not a)) → ¬ A → ⊥
not_is true f t h = h (f tt)
not_is false f t h = t

abbrev pub le? : (m n : ℕ) → Test (m ≤ n)
le? m n = record { pass = leb m n; sound = leb→le m n; fails = λ t h. let k = nleb→lt m n t in let x : ⊥ = omega arith in x }

abbrev pub lt? : (m n : ℕ) → Test (m < n)
lt? m n = le? (suc m) n

pub neq : (m n : ℕ) → T (not (eqb m n)) → m ≡ n → ⊥
neq m n t h = T_not (eqb m n) t (subst (λ (x : ℕ). T (eqb m x)) h (eqb_refl m))

abbrev pub eq? : (m n : ℕ) → Test (m ≡ n)
eq? m n = record { pass = eqb m n; sound = eqb→eq m n; fails = neq m n }

infixr 4 ◌and?◌ ◌or?◌
abbrev pub ◌and?◌ : {A B : Type 0} → Test A → Test B → Test (A × B)
a and? b = record { pass = both a.pass b.pass; sound = λ t. let r = both_is a.pass b.pass t in (a.sound r.0, b.sound r.1); fails = both_not a.pass b.pass a.fails b.fails }

abbrev pub ◌or?◌ : {A B : Type 0} → Test A → Test B → Test (A ⊎ B)
a or? b = record { pass = either a.pass b.pass; sound = either_is a.pass b.pass a.sound b.sound; fails = either_not a.pass b.pass a.fails b.fails }

abbrev pub not? : {A : Type 0} → Test A → Test (¬ A)
not? a = record { pass = not a.pass; sound = a.fails; fails = not_is a.pass a.sound }

-- what never holds, and what always does
abbrev pub never? : Test ⊥
never? = record { pass = false; sound = absurd; fails = λ t h. h }

abbrev pub always? : Test Unit
always? = record { pass = true; sound = λ t. tt; fails = λ t h. t }

-- what is decided, as a test; it need not compute
abbrev passed : {A : Type 0} → Dec A → Bool
passed (yes a) = true
passed (no k) = false

decided_sound : {A : Type 0} (d : Dec A) → T (passed d) → A
decided_sound (yes a) t = a
decided_sound (no k) t = absurd t

decided_fails : {A : Type 0} (d : Dec A) → T (not (passed d)) → A → ⊥
decided_fails (yes a) t h = t
decided_fails (no k) t h = k h

pub decided? : {A : Type 0} → Dec A → Test A
decided? d = record { pass = passed d; sound = decided_sound d; fails = decided_fails d }

pub implies_is : {A B : Type 0} (a b : Bool) → (T (not a) → A → ⊥) → (T b → B) → T (either (not a) b) → A → B
implies_is true b f g t h = g t
implies_is false b f g t h = absurd (f tt h)

pub implies_not : {A B : Type 0} (a b : Bool) → (T a → A) → (T (not b) → B → ⊥) → T (not (either (not a) b)) → (A → B) → ⊥
implies_not true b f g t h = g t (h (f tt))
implies_not false b f g t h = t

infixr 3 ◌implies?◌
abbrev pub ◌implies?◌ : {A B : Type 0} → Test A → Test B → Test (A → B)
a implies? b = record { pass = either (not a.pass) b.pass; sound = implies_is a.pass b.pass a.fails b.sound; fails = implies_not a.pass b.pass a.sound b.fails }

-- a test that can only be asked where another passes
abbrev pub where_passed : (a : Bool) → (T a → Bool) → Bool
where_passed true b = b tt
where_passed false b = false

pub then_is : {A B : Type 0} (a : Bool) (b : T a → Bool) → (T a → A) → ((t : T a) → T (b t) → B) → T (where_passed a b) → A × B
then_is true b f g t = (f tt, g tt t)
then_is false b f g t = absurd t

pub then_not : {A B : Type 0} (a : Bool) (b : T a → Bool) → (T (not a) → A → ⊥) → ((t : T a) → T (not (b t)) → B → ⊥) → T (not (where_passed a b)) → A × B → ⊥
then_not true b f g t h = g tt t h.1
then_not false b f g t h = f tt h.0

infixr 4 ◌then?◌
abbrev pub ◌then?◌ : {A B : Type 0} → Test A → (A → Test B) → Test (A × B)
a then? b = record {
  pass = where_passed a.pass (λ t. (b (a.sound t)).pass);
  sound = then_is a.pass (λ t. (b (a.sound t)).pass) a.sound (λ t. (b (a.sound t)).sound);
  fails = then_not a.pass (λ t. (b (a.sound t)).pass) a.fails (λ t. (b (a.sound t)).fails);
}

abbrev pub map? : {A B : Type 0} → (A → B) → (B → A) → Test A → Test B
map? f g a = record { pass = a.pass; sound = λ t. f (a.sound t); fails = λ t b. a.fails t (g b) }

-- every number below n
abbrev pub all_below : (ℕ → Bool) → ℕ → Bool
all_below f zero = true
all_below f (suc n) = both (f n) (all_below f n)

module _ {P : ℕ → Type 0} (t : (k : ℕ) → Test (P k)) where
  last : {n k : ℕ} → k < suc n → Dec (k ≡ n) → P n → (k < n → P k) → P k
  last h (yes e) p q = subst P (sym e) p
  last h (no e) p q = q (omega arith)

  pub all_sound : (n : ℕ) → T (all_below (λ k. (t k).pass) n) → (k : ℕ) → k < n → P k
  all_sound zero h k l = absurd (not-suc-le-zero l)
  all_sound (suc n) h k l =
      let r = both_is (t n).pass (all_below (λ k. (t k).pass) n) h in
      last l (ℕ_discrete k n) ((t n).sound r.0) (all_sound n r.1 k)

  pub all_fails : (n : ℕ) → T (not (all_below (λ k. (t k).pass) n)) → ((k : ℕ) → k < n → P k) → ⊥
  all_fails zero h f = h
  all_fails (suc n) h f = both_not {A = P n} {B = (k : ℕ) → k < n → P k} (t n).pass (all_below (λ k. (t k).pass) n) (t n).fails (all_fails n) h (f n (le_refl (suc n)), λ k l. f k (omega arith))

  abbrev pub all? : (n : ℕ) → Test ((k : ℕ) → k < n → P k)
  all? n = record { pass = all_below (λ k. (t k).pass) n; sound = all_sound n; fails = all_fails n }

-- some number below n
abbrev pub any_below : (ℕ → Bool) → ℕ → Bool
any_below f zero = false
any_below f (suc n) = either (f n) (any_below f n)

pub record Some (P : ℕ → Type 0) (n : ℕ) : Type 0 where
  pub k : ℕ
  pub below : k < n
  pub is : P k

pub any_sound : {P : ℕ → Type 0} (t : (k : ℕ) → Test (P k)) (n : ℕ) → T (any_below (λ k. (t k).pass) n) → Some P n
any_sound {P} t zero h = absurd h
any_sound {P} t (suc n) h = cases (either_is {A = P n} {B = Some P n} (t n).pass (any_below (λ k. (t k).pass) n) (t n).sound (any_sound t n) h)
  where
    cases : P n ⊎ Some P n → Some P (suc n)
    cases (inl x) = record { k = n; below = le_refl (suc n); is = x }
    cases (inr x) = record { k = x.k; below = omega (arith, x.below); is = x.is }

pub any_fails : {P : ℕ → Type 0} (t : (k : ℕ) → Test (P k)) (n : ℕ) → T (not (any_below (λ k. (t k).pass) n)) → Some P n → ⊥
any_fails {P} t zero h x = not-suc-le-zero x.below
any_fails {P} t (suc n) h x = either_not {A = P n} {B = Some P n} (t n).pass (any_below (λ k. (t k).pass) n) (t n).fails (any_fails t n) h (cases (ℕ_discrete x.k n))
  where
    cases : Dec (x.k ≡ n) → P n ⊎ Some P n
    cases (yes e) = inl (subst P e x.is)
    cases (no e) = inr (record { k = x.k; below = omega (arith, x.below); is = x.is })

abbrev pub any? : {P : ℕ → Type 0} (t : (k : ℕ) → Test (P k)) (n : ℕ) → Test (Some P n)
any? t n = record { pass = any_below (λ k. (t k).pass) n; sound = any_sound t n; fails = any_fails t n }
