-- At the start no line is put, and each turn puts the line of one more carrier.
use Rattle.put.proofs.Putting.{puts_none, puts_then}
use Rattle.report.proofs.Lines.{no_lines, next_line}
use Rattle.report.proofs.print.put_carriers.Goals as goal

pub loop-carrier-init : goal.loop-carrier-init
loop-carrier-init c = rw no_lines (puts_none _)

pub loop-carrier-preserved : goal.loop-carrier-preserved
loop-carrier-preserved c = rw next_line (puts_then c.loop-carrier.invariant c.put_carrier.ensures)
