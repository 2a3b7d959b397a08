-- Both ends are nodes, since the list is clean or by the tests, labels that are less than two apart are
-- near, and a label that is not the mark of a closed node is below it.
use Rattle.std.proofs.Common.{◌<◌, length, refl, arith, inl, inr}
use Rattle.walk.specs.Sweep.{kept, second_fell, first_fell}
use Rattle.walk.proofs.look.Goals as goal
use Rattle.walk.proofs.look.Goals.{Joined-else-not-clean, else-not-clean-via-then-not-clean+else-second-row, else-not-clean-via-else-not-clean}

-- behind the tests both ends are nodes
both : (c : Joined-else-not-clean) → (c.args.a < length c.args.row.now) × (c.args.b < length c.args.row.now)
both c = elim c.else-not-clean.branch [
  | else-not-clean-via-then-not-clean+else-second-row w ↦ w.if-second-row.false
  | else-not-clean-via-else-not-clean w ↦ (c.requires.0 w.if-not-clean.false, c.requires.1 w.if-not-clean.false)
]

pub returns-then-second-row : goal.returns-then-second-row
returns-then-second-row c =
    kept (λ h i x y. absurd (let z : ⊥ = elim c.if-second-row.either [ inl e ↦ omega arith | inr e ↦ omega (arith, e.1) ] in z)) refl

pub returns-then-abs_diff-lt2 : goal.returns-then-abs_diff-lt2
returns-then-abs_diff-lt2 c = kept (λ h i below-a below-b. record { second = omega (arith, c.abs_diff.ensures); first = omega (arith, c.abs_diff.ensures) }) refl

-- the higher label is the mark of a closed node, and stays
pub returns-then-y : goal.returns-then-y
returns-then-y c = kept (λ h i x y. absurd (let z : ⊥ = omega arith in z)) refl

pub returns-then-x : goal.returns-then-x
returns-then-x c = kept (λ h i x y. absurd (let z : ⊥ = omega arith in z)) refl

-- or it is not, and is below that mark
pub returns-else-y : goal.returns-else-y
returns-else-y c =
    let ends = both (goal.at.returns-else-y c).Joined-else-not-clean in
    second_fell ends.0 ends.1 (omega (arith, c.abs_diff.ensures)) (omega arith) refl

pub returns-else-x : goal.returns-else-x
returns-else-x c =
    let ends = both (goal.at.returns-else-x c).Joined-else-not-clean in
    first_fell ends.0 ends.1 (omega (arith, c.abs_diff.ensures)) (omega arith) refl
