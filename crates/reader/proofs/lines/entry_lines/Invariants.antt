-- The invariant of `entry_lines` is `LinesRead`: the entries read so far are fine, stand in the table, and lead
-- to where the cursor stands.
use Rattle.reader.proofs.EntryLines.{LinesRead}
use Rattle.reader.proofs.lines.entry_lines.Given as goal

abbrev pub invariant-loop-k : goal.invariant-loop-k
invariant-loop-k l = LinesRead l.text l.which l.job l.closed l.count l.initial.here l.initial.table l.table l.here l.k
