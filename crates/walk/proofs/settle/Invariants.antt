-- The invariant of `settle` is `Settling`: one label more has been gone through after each turn, whether it stays
-- or goes over into the other mark.
use Rattle.walk.proofs.WalkMarks.{Settling}
use Rattle.walk.proofs.settle.Given as goal

abbrev pub invariant-loop-label : goal.invariant-loop-label
invariant-loop-label l = Settling l.initial.row l.row l.label-index
