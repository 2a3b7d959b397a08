-- A turn places one carrier more (`placed_more`).
use Rattle.std.proofs.Common.{length, arith}
use Rattle.ticks.proofs.Places.{placed_more}
use Rattle.ticks.proofs.place_all.Goals as goal

pub loop-q-preserved : goal.loop-q-preserved
loop-q-preserved c =
    let a = c.args in
    let loop = c.loop-q in
    placed_more a.dwell a.table.now a.order.now a.ticks.now (length a.ticks.now) c.requires.0
    loop.ticks c.place_next.new.ticks loop.q (omega arith) loop.invariant.as_many
    loop.invariant c.place_next.ensures
