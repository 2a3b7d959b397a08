-- A refusal of the job or of the number zeroes the list. Where neither is at fault, the question with the carrier's
-- move answers for the job.
use Rattle.std.proofs.Common.{refl, arith, Err}
use Rattle.hall.specs.Job.{job_in, start, goal}
use Rattle.hall.specs.Questions.{asked_question}
use Rattle.path.specs.Paths.{said_housed}
use Rattle.path.proofs.Housing.{left_refused}
use Rattle.asks.proofs.Answers.{house_of_move_lem}
use Rattle.asks.proofs.house_for.Goals as at

pub returns-in-Ok : at.returns-in-Ok
returns-in-Ok c =
    let j = job_in c.args.job.now in
    let found = c.in-Ok.ensures in
    record {
      given =
          house_of_move_lem j c.args.carrier.0 c.args.path.now _ c.if-path-lt-NODES.false found.no_fault
          (said_housed c.house.result) (rw (found.start_is, found.goal_is) at c.house.ensures.given);
      job_kept = refl;
    }

pub returns-in-Err : at.returns-in-Err
returns-in-Err c =
    let n = c.args.carrier.0 in
    let j = job_in c.args.job.now in
    record {
      given =
          left_refused (asked_question j n) j.network (start j n) (goal j n)
          c.args.path.now c.if-path-lt-NODES.false {c = Err c.in-Err.refusal} (omega arith)
          refl c.in-Err.ensures c.fill_first.ensures;
      job_kept = refl;
    }
