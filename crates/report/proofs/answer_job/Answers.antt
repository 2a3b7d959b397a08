-- The lists that are lent to planning have their least lengths, so what planning promises is the answer
-- for the job, and printing writes it. A refused carrier is one of the job's, so the number of its line is
-- no sum that wraps.
use Rattle.std.proofs.Common.{rules, arith}
use Rattle.report.proofs.JobAnswers.{closed_lines_few, refused_carrier, refusal_answers, cost_answers}
use Rattle.report.proofs.JobAnswers.{planned_accepted, planned_refused}
use Rattle.report.proofs.answer_job.Goals as goal

pub overflow_add-first-in-Err : goal.overflow_add-first-in-Err
overflow_add-first-in-Err c =
    let refuses = planned_refused c.in-Err.is c.plan_moves.ensures in
    let few = refused_carrier c.requires
    (record { table = search rules; distances = search rules; ticks = search rules }) refuses in
    let lines = closed_lines_few c.args.job.now.network.closed.now in
    omega (arith, few, lines)

pub returns-in-Ok : goal.returns-in-Ok
returns-in-Ok c =
    let accepted = planned_accepted c.in-Ok.is c.plan_moves.ensures in
    cost_answers c.requires
    (record { table = search rules; distances = search rules; ticks = search rules })
    accepted c.print_plan.ensures

pub returns-in-Err : goal.returns-in-Err
returns-in-Err c =
    let refuses = planned_refused c.in-Err.is c.plan_moves.ensures in
    refusal_answers c.requires
    (record { table = search rules; distances = search rules; ticks = search rules })
    refuses
    (rw (c.number.ensures, c.closed_lines.ensures) at c.print_refused.ensures)
