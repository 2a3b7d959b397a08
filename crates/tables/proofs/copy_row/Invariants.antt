-- The invariant of `copy_row`: the row is copied for the moves before j, `RowCopied` so far.
use Rattle.tables.specs.Blocks.{RowCopied}
use Rattle.tables.proofs.copy_row.Given as goal

abbrev pub invariant-loop-j : goal.invariant-loop-j
invariant-loop-j l = RowCopied l.row l.moves l.offset l.j l.base l.initial.table l.table
