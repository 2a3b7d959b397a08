-- The invariant (`RoundTo`): the tick stands where the carriers asked so far have moved it, and if it stands where it
-- began, they all permit it.
use Rattle.rule.proofs.Reach.{RoundTo}
use Rattle.rule.proofs.round.Given as goal

abbrev pub invariant-loop-carrier : goal.invariant-loop-carrier
invariant-loop-carrier l = RoundTo l.dwell l.held l.from l.carrier-index l.tick
