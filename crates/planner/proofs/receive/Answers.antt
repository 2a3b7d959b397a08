-- Past 9 the lists are cleared, and what the checks answer is answered.
use Rattle.hall.specs.Job.{job_in}
use Rattle.planner.specs.Planning.{lent}
use Rattle.planner.proofs.Receiving.{same_lent, checked_received}
use Rattle.planner.proofs.receive.Goals as goal

pub returns : goal.returns
returns c =
    let a = c.args in
    checked_received (job_in a.job.now) (lent a.table.now a.distances.now a.ticks.now) c.if-short.ensures
    (same_lent c.fill_first.ensures c.fill_first-2.ensures c.fill_first-3.ensures)
    c.check_job.result c.check_job.ensures
