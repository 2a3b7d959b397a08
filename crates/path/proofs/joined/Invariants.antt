-- The invariant of `joined`: no lane before lane k joins a and b.
use Rattle.std.proofs.Common.{◌*◌}
use Rattle.path.proofs.LaneScan.{Passed}
use Rattle.path.proofs.joined.Given as goal

abbrev pub invariant-loop-k : goal.invariant-loop-k
invariant-loop-k l = Passed l.lanes l.a l.b (2 * l.k)
