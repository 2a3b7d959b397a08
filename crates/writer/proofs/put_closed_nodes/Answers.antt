-- Where no node is closed nothing is put, and otherwise the section's line and its entries.
use Rattle.std.proofs.Common.{arith}
use Rattle.put.proofs.Putting.{puts_none, puts_then}
use Rattle.form.specs.Words.{CLOSED}
use Rattle.writer.proofs.Lines.{rows_of_one, closed_unwritten, closed_written}
use Rattle.writer.proofs.put_closed_nodes.Goals as goal

pub returns-then-count-eq0 : goal.returns-then-count-eq0
returns-then-count-eq0 c = rw (closed_unwritten c.args.closed.now (omega arith)) (puts_none _)

pub returns : goal.returns
unfolding CLOSED
returns c =
    rw (closed_written c.args.closed.now (omega arith))
    (puts_then (puts_then c.put_count.ensures (rw rows_of_one at c.put_lines.ensures)) (puts_none _))
