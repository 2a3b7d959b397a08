-- The invariant of `sweep` is `Sweeping`.
use Rattle.std.proofs.Common.{length}
use Rattle.walk.proofs.WalkSweep.{Sweeping}
use Rattle.walk.proofs.sweep.Given as goal

abbrev pub invariant-loop-rest : goal.invariant-loop-rest
invariant-loop-rest l = Sweeping (length l.initial.row) l.list l.back l.initial.row l.row l.rest l.next
