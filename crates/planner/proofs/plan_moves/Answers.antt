-- A refusal of receiving is one of planning. A received job is measured: 8 refuses it, or it is ready, so that it has
-- its start ticks and is planned (`ready_planned`). What is received is served, so measuring never ends as unserved,
-- and there are start ticks.
use Rattle.std.proofs.Common.{◌∙◌, ap, Err}
use Rattle.std.proofs.lemmas.Result.{err_from_is_err_and}
use Rattle.hall.specs.Job.{Numbers, job_in}
use Rattle.tables.proofs.Measuring.{says_all, says_lost, served_measured}
use Rattle.planner.specs.Planning.{Lent, lent}
use Rattle.planner.specs.Receiving.{Received}
use Rattle.ticks.proofs.Outcome.{is_given}
use Rattle.planner.proofs.Receiving.{received_refuses}
use Rattle.planner.proofs.Outcome.{served_timed}
use Rattle.planner.proofs.Ready.{measure_served, ready_lost, ready_served, ready_planned}
use Rattle.planner.proofs.plan_moves.Goals as goal
use Rattle.planner.proofs.plan_moves.Goals.{In_ok-receive}

-- the job, and the lists as they came
abbrev job : In_ok-receive → Numbers
job c = job_in c.args.job.now

abbrev came : In_ok-receive → Lent
came c = lent c.args.table.now c.args.distances.now c.args.ticks.now

-- the lists that receiving leaves
abbrev mid : In_ok-receive → Lent
mid c = lent c.receive.new.table c.receive.new.distances c.receive.new.ticks

-- what is measured was received
received : (c : In_ok-receive) → Received (job c) (came c) (mid c)
received c = c.in_ok-receive.ensures

pub returns-in_err-receive : goal.returns-in_err-receive
returns-in_err-receive c =
    let p = err_from_is_err_and c.from_residual.result c.from_residual.ensures.1 in
    rw (p.1, p.2) (received_refuses (c.in_err-receive.was) c.receive.ensures)

pub returns-in-Err-Lost : goal.returns-in-Err-Lost
returns-in-Err-Lost c =
    let m = (goal.at.returns-in-Err-Lost c).In_ok-receive in
    rw c.new.ensures
    (ready_lost (job m) (came m) (mid m) (received m)
    (says_lost {N = (job m).network} (c.in-Err-Lost.is ∙ ap Err c.in-Err-Lost.field-0-is) c.measure.ensures))

pub unreachable-requires : goal.unreachable-requires
unreachable-requires c =
    let m = (goal.at.unreachable-requires c).In_ok-receive in
    served_measured (measure_served (job m) (came m) (mid m) (received m))
    c.measure.new.table c.measure.new.distances (c.in-Err-Unserved.is ∙ ap Err c.in-Err-Unserved.field-0-is)
    c.measure.ensures

pub unwrap-cost-requires : goal.unwrap-cost-requires
unwrap-cost-requires c =
    let m = (goal.at.unwrap-cost-requires c).In_ok-receive in
    let ready = says_all {N = (job m).network} c.in-Ok.is c.measure.ensures in
    served_timed c.measure.new.table (job m).order (job m).dwell (mid m).ticks c.start_ticks.new.ticks
    c.start_ticks.result (ready_served (job m) (came m) (mid m) (received m) ready) c.start_ticks.ensures

pub returns : goal.returns
returns c =
    let m = (goal.at.returns c).In_ok-receive in
    let ready = says_all {N = (job m).network} c.in-Ok.is c.measure.ensures in
    ready_planned (job m) (came m) (mid m) (received m) ready
    (is_given c.unwrap-cost.ensures c.start_ticks.ensures)
