-- One entry more has been gone through after each turn: one that is a node is marked, another changes
-- nothing.
use Rattle.std.proofs.Common.{arith}
use Rattle.walk.proofs.WalkMarks.{shutting_node, shutting_other}
use Rattle.walk.proofs.shut.Goals as goal
use Rattle.walk.proofs.shut.Goals.{then-place-row, else-place-row}

pub loop-node-preserved : goal.loop-node-preserved
loop-node-preserved c =
    let s = c.loop-node.invariant in
    elim c.if-place-row.branch [
      | then-place-row w ↦ rw w.row-is (shutting_node s (omega arith) (omega arith) (omega arith))
      | else-place-row w ↦ rw w.row-is (shutting_other s (omega arith))
    ]
