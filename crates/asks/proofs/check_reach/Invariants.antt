-- The invariant of `check_reach`: a walk takes each carrier before carrier i to its goal.
use Rattle.hall.specs.Floor.{network_in}
use Rattle.hall.specs.Questions.{walk_checks}
use Rattle.hall.proofs.Places.{Passed}
use Rattle.asks.proofs.check_reach.Given as goal

abbrev pub invariant-loop-i : goal.invariant-loop-i
invariant-loop-i l = Passed (walk_checks (network_in l.network) l.moves) l.i
