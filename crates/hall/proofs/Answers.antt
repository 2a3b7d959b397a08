-- What a yes or no tells: from the answer to the statement, for a test as it stands and for one that is
-- turned round, and that one answer fits. Assumes nothing.
use mathlib.Core.Path.{◌≡◌, refl, sym}
use mathlib.Core.Bool.{Bool, true, false, not}
use native.Mathlib.Omega.{arith}
use Prim.Native.Nat.{ℕ}
use Rattle.hall.specs.Rule.{Answers}

pub true_not_false : true ≡ false → ⊥
true_not_false e = let k : ◌≡◌ {A = ℕ} 1 0 = cc in omega arith

pub affirmed : (b : Bool) {A : Type 0} → b ≡ true → Answers b A → A
affirmed true e a = a
affirmed false e a = absurd (true_not_false (sym e))

pub denied : (b : Bool) {A : Type 0} → b ≡ false → Answers b A → ¬ A
denied true e a = absurd (true_not_false e)
denied false e a = a

-- of a test that is turned round, `if !..`
pub affirmed_not : (b : Bool) {A : Type 0} → not b ≡ false → Answers b A → A
affirmed_not true e a = a
affirmed_not false e a = absurd (true_not_false e)

pub denied_not : (b : Bool) {A : Type 0} → not b ≡ true → Answers b A → ¬ A
denied_not true e a = absurd (true_not_false (sym e))
denied_not false e a = a

pub answers_unique : (A : Type 0) (r r' : Bool) → Answers r A → Answers r' A → r ≡ r'
answers_unique A true true a b = refl
answers_unique A true false a b = absurd (b a)
answers_unique A false true a b = absurd (a b)
answers_unique A false false a b = refl
