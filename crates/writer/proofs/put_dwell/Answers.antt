-- Where carriers do not wait nothing is put, and otherwise the line of the dwell.
use Rattle.std.proofs.Common.{arith}
use Rattle.put.proofs.Putting.{puts_none, puts_then}
use Rattle.form.specs.Words.{DWELL}
use Rattle.writer.proofs.Lines.{dwell_unwritten, dwell_written}
use Rattle.writer.proofs.put_dwell.Goals as goal

pub returns-then-dwell-eq0 : goal.returns-then-dwell-eq0
returns-then-dwell-eq0 c = rw (dwell_unwritten c.args.dwell (omega arith)) (puts_none _)

pub returns : goal.returns
unfolding DWELL
returns c =
    rw (dwell_written c.args.dwell (omega arith))
    (puts_then (puts_then c.put_count.ensures (puts_none _)) (puts_none _))
