-- A turn adds a tick of 32 bits and a distance of 16, so 64 of them fit. It adds one more goal tick to the sum
-- (`total_more`), which starts from none (`total_none`).
use Rattle.std.proofs.Common.{◌+◌, ◌*◌, get_or, sym, arith}
use Rattle.hall.specs.Limits.{carrier_limit, block_length}
use Rattle.hall.specs.Ticks.{goal_tick}
use Rattle.hall.specs.Plan.{tables_in}
use Rattle.ticks.proofs.Sums.{total_none, total_more}
use Rattle.ticks.proofs.cost.Goals as goal

pub loop-i-init : goal.loop-i-init
loop-i-init c = (omega arith, sym (total_none _))

pub loop-i-preserved : goal.loop-i-preserved
loop-i-preserved c =
    let i = c.loop-i.i in
    let f = goal_tick (tables_in c.args.table.now) (λ j. get_or c.args.ticks.now j 0) in (
      omega (arith, c.goal_tick-sum.ensures, c.type_inv.ticks i, c.type_inv.table (block_length + (carrier_limit * i + i))),
      rw (c.loop-i.invariant.1, c.goal_tick-sum.ensures) (sym (total_more i f)),
    )
