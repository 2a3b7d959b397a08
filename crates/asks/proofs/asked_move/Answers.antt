-- A refusal of the job or of the number is the first fault. Where neither is at fault, the carrier has a start and a
-- goal in the moves.
use Rattle.std.proofs.Common.{arith}
use Rattle.std.proofs.lemmas.Result.{err_from_is_err_and}
use Rattle.hall.specs.Job.{job_in}
use Rattle.hall.specs.Questions.{asked_question}
use Rattle.hall.proofs.Compose.{refused_first, sound_none}
use Rattle.asks.proofs.OneOfJob.{carrier_there}
use Rattle.asks.proofs.asked_move.Goals as goal

pub returns-in_err-check_asked : goal.returns-in_err-check_asked
returns-in_err-check_asked c =
    let j = job_in c.args.job.now in
    let p = err_from_is_err_and c.from_residual.result c.from_residual.ensures.1 in
    rw (p.1, p.2) (refused_first (asked_question j c.args.carrier.0) c.in_err-check_asked.was c.check_asked.ensures)

pub move_of-requires : goal.move_of-requires
move_of-requires c =
    let j = job_in c.args.job.now in
    let sound = sound_none (asked_question j c.args.carrier.0) c.in_ok-check_asked.was c.check_asked.ensures in
    omega (arith, carrier_there j c.args.carrier.0 sound)

pub returns : goal.returns
returns c =
    let j = job_in c.args.job.now in
    record {
      no_fault = sound_none (asked_question j c.args.carrier.0) c.in_ok-check_asked.was c.check_asked.ensures;
      start_is = c.move_of.ensures.start;
      goal_is = c.move_of.ensures.goal;
    }
