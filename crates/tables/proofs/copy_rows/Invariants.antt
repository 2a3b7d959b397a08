-- The invariant of `copy_rows`: the row is copied for the carriers before i whose rows begin at the node,
-- `RowsCopied` so far.
use Rattle.tables.specs.Blocks.{RowsCopied}
use Rattle.tables.proofs.copy_rows.Given as goal

abbrev pub invariant-loop-i : goal.invariant-loop-i
invariant-loop-i l = RowsCopied l.row l.moves l.node l.block l.i l.initial.table l.table
