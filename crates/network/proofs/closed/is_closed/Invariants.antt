-- The invariant of `is_closed`: it is told whether one of the entries before this one is the node.
use Rattle.hall.specs.Rule.{Answers}
use Rattle.network.proofs.ClosedList.{Found}
use Rattle.network.proofs.closed.is_closed.Given as goal

abbrev pub invariant-loop-entry : goal.invariant-loop-entry
invariant-loop-entry l = Answers l.stands (Found l.closed l.node l.entry-index)
