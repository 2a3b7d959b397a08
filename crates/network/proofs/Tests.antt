-- A comparison that is returned as it is tells of a statement that holds where the comparison does and fails
-- where it fails. Assumes nothing.
use mathlib.Core.Path.{◌≡◌, refl}
use mathlib.Core.Bool.{Bool, true, false}
use Prim.Native.Nat.{ℕ, ◌≤◌, ◌<◌}
use borrow.Author.Tests.{ltb-true, ltb-false, leb-true, leb-false}
use lib.Dec.{ltb, leb}
use Rattle.hall.specs.Rule.{Answers}

module _ (a b : ℕ) {P : Type 0} where
  pub at_most_tells : (a ≤ b → P) → (b < a → ¬ P) → Answers (leb a b) P
  at_most_tells holds fails = by_test (leb a b) refl
    where
      by_test : (t : Bool) → leb a b ≡ t → Answers t P
      by_test true e = holds (leb-true a b e)
      by_test false e = fails (leb-false a b e)

  pub below_tells : (a < b → P) → (b ≤ a → ¬ P) → Answers (ltb a b) P
  below_tells holds fails = by_test (ltb a b) refl
    where
      by_test : (t : Bool) → ltb a b ≡ t → Answers t P
      by_test true e = holds (ltb-true a b e)
      by_test false e = fails (ltb-false a b e)
