-- The carrier at place p has a number below the limit and a tick, and there is room for it in the list; a turn writes
-- it there (`gathered_more`).
use Rattle.std.proofs.Common.{◌<◌, length, ◌∙◌, ap, arith}
use Rattle.rule.specs.Held.{held_with}
use Rattle.rule.proofs.Holding.{holding_written}
use Rattle.ticks.proofs.Gathering.{gathered_more}
use Rattle.ticks.proofs.gather.Goals as goal

pub loop-p-preserved : goal.loop-p-preserved
loop-p-preserved c =
    let a = c.args in
    let loop = c.loop-p in
    let placed = c.carrier-placed in
    let fits : loop.p < length loop.held =
    omega (arith, loop.invariant.as_many, c.if-not-gather_served.ensures.enough_room, c.loop-p-test.true) in
    gathered_more a.table.now a.order.now a.ticks.now a.held.now a.new.0
    loop.held c.hold.new.held loop.p placed.result.0 fits placed.ensures
    (holding_written loop.held loop.p _ _ c.hold.new.held c.hold.result fits c.hold.ensures
    ∙ ap (held_with loop.held loop.p _) c.pair_of-pair.ensures)
    loop.invariant
