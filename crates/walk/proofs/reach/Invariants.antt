-- The invariant of `reach` is `Walking`, and that the row before the first sweep was as rounds leave it.
-- The measure is how many sweeps are left of as many as there are nodes; it falls because a walk that is
-- not done had fewer.
use Rattle.std.proofs.Common.{◌-◌}
use Rattle.hall.specs.Floor.{network_in}
use Rattle.walk.proofs.WalkBegun.{Unswept}
use Rattle.walk.proofs.WalkReach.{Walking}
use Rattle.walk.proofs.reach.Given as goal

abbrev pub invariant-loop-todo : goal.invariant-loop-todo
invariant-loop-todo l =
    Walking (network_in l.network) l.source l.initial.row l.row l.sweeps l.back l.todo
    × Unswept (network_in l.network) l.source l.fn.row l.initial.row

abbrev pub decreases-loop-todo : goal.decreases-loop-todo
decreases-loop-todo l = l.network.nodes - l.sweeps
