-- After each turn the row of one carrier more is copied, or passed over since it begins at another node.
use Rattle.std.proofs.Common.{refl}
use Rattle.tables.proofs.Rows.{rows_more, rows_passed}
use Rattle.tables.proofs.copy_rows.Goals as goal
use Rattle.tables.proofs.copy_rows.Goals.{then-moves-i, else-moves-i}

pub loop-i-preserved : goal.loop-i-preserved
loop-i-preserved c =
    let loop = c.loop-i in
    elim c.if-moves-i.branch [
      | then-moves-i w ↦ rw w.table-is (rows_more _ _ _ _ _ loop.i loop.table loop.invariant c.requires.1 refl refl refl w.if-moves-i.true w.copy_row.ensures)
      | else-moves-i w ↦ rw w.table-is (rows_passed _ _ _ _ _ loop.i loop.table loop.invariant refl w.if-moves-i.false)
    ]
