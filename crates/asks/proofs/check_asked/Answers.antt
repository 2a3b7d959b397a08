-- That the listed checks of the job are passed gives what the search for 8 starts from; what is refused before
-- the last check is refused of the whole question.
use Rattle.std.proofs.Common.{[], ◌∷◌, ℕ}
use Rattle.hall.specs.Job.{Numbers, job_in, carriers}
use Rattle.hall.specs.Stages.{Question}
use Rattle.hall.specs.Questions.{each_walk, lacking, checks_question, job_question, asked_question}
use Rattle.hall.proofs.Compose.{first_before, refused_first, none_append, sound_none, judged_after}
use Rattle.hall.proofs.Sound.{nodes_limit, ends_on}
use Rattle.network.proofs.EachEntry.{returned, returned_behind}
use Rattle.asks.proofs.check_asked.Goals as goal

abbrev walks_of : Numbers → Question
walks_of j = each_walk j.network j.moves ∷ []

abbrev number_of_it : Numbers → ℕ → Question
number_of_it j c = lacking (carriers j) c ∷ []

pub returns-in_err-check_job : goal.returns-in_err-check_job
returns-in_err-check_job c =
    let j = job_in c.args.job.now in
    let first = refused_first (checks_question j) c.in_err-check_job.was c.check_job.ensures in
    returned (asked_question j c.args.carrier.0) _ _ c.from_residual.ensures.1
    (first_before (number_of_it j c.args.carrier.0) (first_before (walks_of j) first))

pub check_reach-requires : goal.check_reach-requires
check_reach-requires c =
    let j = job_in c.args.job.now in
    let sound = sound_none (checks_question j) c.in_ok-check_job.was c.check_job.ensures in
    record { few = nodes_limit j sound; ends = ends_on j sound }

pub returns-in_err-check_reach : goal.returns-in_err-check_reach
returns-in_err-check_reach c =
    let j = job_in c.args.job.now in
    let sound = sound_none (checks_question j) c.in_ok-check_job.was c.check_job.ensures in
    returned_behind (checks_question j) (walks_of j) (number_of_it j c.args.carrier.0) sound
    c.in_err-check_reach.was c.check_reach.ensures _ c.from_residual-in_err-check_reach.ensures.1

pub returns : goal.returns
returns c =
    let j = job_in c.args.job.now in
    let sound = sound_none (checks_question j) c.in_ok-check_job.was c.check_job.ensures in
    let joined = sound_none (walks_of j) c.in_ok-check_reach.was c.check_reach.ensures in
    judged_after (job_question j) (number_of_it j c.args.carrier.0) (none_append sound joined) c.check_number.result
    c.check_number.ensures
