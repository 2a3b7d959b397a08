-- The list with the carrier stored at its place is the one that the contract names.
use Rattle.std.proofs.Common.{arith, refl}
use Rattle.rule.specs.Held.{held_with}
use Rattle.rule.proofs.hold.Goals as goal

pub returns : goal.returns
unfolding held_with
returns c = record { served = omega arith; written = refl }
