-- A refusal of the job or of the number is the first fault. Where neither is at fault, the question with the
-- carrier's move answers for the job: its only refusal is 11.
use Rattle.std.proofs.Common.{refl, [], ◌∷◌}
use Rattle.hall.specs.Job.{job_in, start, goal}
use Rattle.hall.specs.Questions.{unfit, list_of_job}
use Rattle.hall.proofs.Compose.{first_before}
use Rattle.network.proofs.EachEntry.{returned}
use Rattle.path.specs.Paths.{Unfit}
use Rattle.asks.proofs.Answers.{list_of_move_lem}
use Rattle.asks.proofs.judge_for.Goals as at

pub returns-in_err-ends : at.returns-in_err-ends
returns-in_err-ends c =
    let n = c.args.carrier.0 in
    let j = job_in c.args.job.now in
    let misfit = Unfit j.network (start j n) (goal j n) c.args.list.now in
    record {
      judged =
          returned (list_of_job j n misfit) _ _ c.from_residual.ensures.1
          (first_before (unfit misfit ∷ []) c.in_err-ends.ensures);
      job_kept = refl;
      list_kept = refl;
    }

pub returns : at.returns
returns c =
    let n = c.args.carrier.0 in
    let j = job_in c.args.job.now in
    let found = c.in_ok-ends.ensures in
    record {
      judged =
          list_of_move_lem j n found.no_fault (Unfit j.network (start j n) (goal j n) c.args.list.now)
          c.judge.result (rw (found.start_is, found.goal_is) at c.judge.ensures.judged);
      job_kept = refl;
      list_kept = refl;
    }
