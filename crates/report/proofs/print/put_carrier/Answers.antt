-- Four fields, one behind the other, are the line of a carrier.
use Rattle.put.proofs.Putting.{puts_then}
use Rattle.report.proofs.Lines.{carrier_parts}
use Rattle.report.proofs.print.put_carrier.Goals as goal

pub returns : goal.returns
returns c =
    let last = puts_then c.field-3.ensures c.field-4.ensures in
    rw carrier_parts (puts_then c.field.ensures (puts_then c.field-2.ensures last))
