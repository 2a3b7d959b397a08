-- The sections one behind the other, each its line and its entries, are the text of the job.
use Rattle.put.proofs.Putting.{puts_none, puts_then}
use Rattle.form.specs.Words.{NODES, LANES, CARRIERS, ORDER}
use Rattle.writer.proofs.Lines.{rows_of_two, rows_of_one, job_parts}
use Rattle.writer.proofs.put_job.Goals as goal

pub returns : goal.returns
unfolding NODES LANES CARRIERS ORDER
returns c =
    let first = puts_then c.put_count.ensures (puts_none _) in
    let second = puts_then c.put_count-2.ensures (rw rows_of_two at c.put_lines.ensures) in
    let third = puts_then c.put_count-3.ensures (rw rows_of_two at c.put_lines-2.ensures) in
    let fourth = puts_then c.put_count-4.ensures (rw rows_of_one at c.put_lines-3.ensures) in
    rw job_parts
    (puts_then first
    (puts_then second
    (puts_then c.put_closed_nodes.ensures (puts_then third (puts_then fourth c.put_dwell.ensures)))))
