-- The invariant of `spread_near`: labels only fell, and in the last round at most as many as there are
-- lanes.
use Rattle.std.proofs.Common.{◌≤◌, length}
use Rattle.hall.specs.Floor.{lanes_in}
use Rattle.walk.specs.Sweep.{OnlyFell}
use Rattle.walk.proofs.spread_near.Given as goal

abbrev pub invariant-loop-far : goal.invariant-loop-far
invariant-loop-far l = OnlyFell (length l.initial.row) l.lanes.list.now l.initial.row l.row × (l.before ≤ lanes_in l.lanes.list.now)
