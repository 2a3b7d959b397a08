-- The invariant: no tick that all permit was passed on the way to the tick, and `next` is where a round of all held
-- carriers moves it. The measure is the number of held carriers whose stretch ends after the tick (`Work`).
use Rattle.std.proofs.Common.{length}
use Rattle.rule.specs.Reach.{TickReached, PermittedByHeld, RoundMade}
use Rattle.rule.proofs.Work.{ahead}
use Rattle.rule.proofs.first_tick.Given as goal

abbrev pub invariant-loop-tick : goal.invariant-loop-tick
invariant-loop-tick l =
    TickReached l.from (PermittedByHeld l.dwell l.held (length l.held)) l.tick
    × RoundMade l.dwell l.held l.tick l.next

abbrev pub decreases-loop-tick : goal.decreases-loop-tick
decreases-loop-tick l = ahead l.dwell l.held l.tick
