-- The invariant: the list is as long as it was, its first p places are as gathered, and the places after them are as
-- they came.
use Rattle.ticks.specs.Gathering.{Gathered}
use Rattle.ticks.proofs.gather.Given as goal

abbrev pub invariant-loop-p : goal.invariant-loop-p
invariant-loop-p l = Gathered l.table l.order l.ticks l.initial.held l.held l.new.0 l.p
