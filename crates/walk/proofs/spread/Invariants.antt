-- The invariant of `spread`: labels only fell, and at most as many as there were lanes so far.
use Rattle.std.proofs.Common.{◌≤◌, length}
use Rattle.walk.specs.Sweep.{OnlyFell}
use Rattle.walk.proofs.spread.Given as goal

abbrev pub invariant-loop-k : goal.invariant-loop-k
invariant-loop-k l = OnlyFell (length l.initial.row) l.lanes l.initial.row l.row × (l.fell ≤ l.k)
