-- The invariants of `put_lines`: the lines of the rest are missing; and within a line, its numbers not yet passed
-- too.
use Rattle.std.proofs.Common.{◌≡◌, ◌++◌, drop}
use Rattle.form.specs.Lines.{entry_line, entry_lines}
use Rattle.writer.specs.Rows.{rows_of}
use Rattle.writer.proofs.Lines.{PutUpTo}
use Rattle.writer.proofs.put_lines.Given as goal

abbrev pub invariant-loop-line : goal.invariant-loop-line
invariant-loop-line g l =
    (l.line-iterator.size ≡ g.row.N)
    × PutUpTo l.fn.text (entry_lines (rows_of g.row.N l.numbers))
    (entry_lines (rows_of g.row.N l.line-iterator.rest.now)) l.text

abbrev pub invariant-loop-k : goal.invariant-loop-k
invariant-loop-k g l =
    PutUpTo l.fn.text (entry_lines (rows_of g.row.N l.numbers))
    (entry_line (drop l.k l.line) ++ entry_lines (rows_of g.row.N l.line-iterator.rest.now)) l.text
