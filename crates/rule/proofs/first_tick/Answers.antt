-- Each round that moves the tick leaves the stretch of a carrier behind, so the number of carriers whose stretch ends
-- after the tick falls (`Work`). When a round moves nothing, all held carriers permit the tick.
use Rattle.std.proofs.Common.{arith}
use Rattle.rule.proofs.Work.{ahead_falls}
use Rattle.rule.proofs.first_tick.Goals as goal

pub loop-tick-smaller : goal.loop-tick-smaller
loop-tick-smaller c =
    ahead_falls c.args.dwell c.args.held.now c.loop-tick.tick c.loop-tick.next
    (omega arith) (c.loop-tick.invariant.1.passed (omega arith))
