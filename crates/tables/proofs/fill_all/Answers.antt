-- A node that came before has its rows already, and another gets them from its walk; so after each turn those
-- of one start or goal more are filled, and at the end those of all. The least length was zero before, so it
-- is where no row is.
use Rattle.std.proofs.Common.{◌≡◌, ◌*◌, length, arith}
use Rattle.hall.specs.Job.{move_count}
use Rattle.hall.specs.Floor.{network_in}
use Rattle.tables.specs.Filling.{TableServed}
use Rattle.hall.proofs.Left.{zeroed_below, zeroed_length}
use Rattle.hall.proofs.Answers.{affirmed}
use Rattle.tables.proofs.Blocks.{filled_more, filled_same, filled_all, over_zeroed}
use Rattle.tables.proofs.fill_all.Goals as goal
use Rattle.tables.proofs.fill_all.Goals.{then-not-came_before, else-not-came_before}

pub loop-x-preserved : goal.loop-x-preserved
loop-x-preserved c =
    let loop = c.loop-x in
    elim c.if-not-came_before.branch [
      | then-not-came_before w ↦ rw w.table-is (filled_more _ _ _ loop.x loop.invariant c.requires.few_carriers w.fill_node.ensures)
      | else-not-came_before w ↦ rw w.table-is (filled_same _ _ _ loop.x loop.invariant (affirmed _ w.if-not-came_before.false c.came_before.ensures))
    ]

pub returns : goal.returns
returns c =
    let all : c.loop-x.x ≡ 2 * move_count c.args.moves.now = omega arith in
    let zeros = c.fill_first.ensures in
    let served : TableServed (network_in c.args.network.now) c.args.moves.now (length c.fill_first.new.list) =
    rw (zeros, zeroed_length _ c.args.table.now) c.requires in
    over_zeroed c.args.table.now zeros
    (filled_all _ _ _ served (λ x h. rw zeros (zeroed_below _ c.args.table.now x h)) (rw all at c.loop-x.invariant))
