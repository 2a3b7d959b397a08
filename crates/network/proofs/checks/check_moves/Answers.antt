-- The counts, the lanes and the closed nodes were sound, one after the other; the moves' answer comes behind all
-- of them.
use Rattle.std.proofs.Common.{[], ◌∷◌, ◌++◌, length, rules}
use Rattle.hall.specs.Floor.{lanes_in}
use Rattle.hall.specs.Job.{Numbers, job_in, move_count, carriers}
use Rattle.hall.specs.Stages.{Question, None}
use Rattle.hall.specs.Said.{Judged}
use Rattle.hall.specs.Questions.{counts, lane_checks, each_lane, closed_checks, each_closed, move_checks, each_move}
use Rattle.hall.proofs.Compose.{none_append, sound_none, judged_after}
use Rattle.network.proofs.EachEntry.{each_judged, returned_behind}
use Rattle.network.proofs.checks.check_moves.Goals as goal
use Rattle.network.proofs.checks.check_moves.Goals.{After-first_refusal, After-first_refusal-2, After-first_refusal-3}

-- the stages of a job, by the callee that asks them
abbrev counted-by : Numbers → Question
counted-by j =
    counts j.network.nodes (length j.network.lanes) (length j.network.closed) (carriers j)
    (length j.order) j.dwell

abbrev lanes-of : Numbers → Question
lanes-of j = each_lane j.network.nodes j.network.lanes ∷ []

abbrev closed_of : Numbers → Question
closed_of j = each_closed j.network.nodes j.network.closed ∷ []

abbrev moves_of : Numbers → Question
moves_of j = each_move j.network.nodes j.network.closed j.moves ∷ []

lanes_judged : (c : After-first_refusal) → Judged (lanes-of (job_in c.args.job.now)) c.first_refusal.result
lanes_judged c =
    let N = (job_in c.args.job.now).network in
    each_judged (lane_checks N.nodes N.lanes) (lanes_in N.lanes) c.first_refusal.ensures (λ k r h. search rules)

closed_judged : (c : After-first_refusal-2) → Judged (closed_of (job_in c.args.job.now)) c.first_refusal-2.result
closed_judged c =
    let N = (job_in c.args.job.now).network in
    each_judged (closed_checks N.nodes N.closed) (length N.closed) c.first_refusal-2.ensures (λ k r h. search rules)

moves_judged : (c : After-first_refusal-3) → Judged (moves_of (job_in c.args.job.now)) c.first_refusal-3.result
moves_judged c =
    let j = job_in c.args.job.now in
    each_judged (move_checks j.network.nodes j.network.closed j.moves) (move_count j.moves) c.first_refusal-3.ensures
    (λ k r h. search rules)

-- what is passed before the closed nodes, and before the moves
counts_passed : (c : After-first_refusal) → None (counted-by (job_in c.args.job.now))
counts_passed c = sound_none (counted-by (job_in c.args.job.now)) c.in_ok-check_counts.was c.check_counts.ensures

lanes_passed : (c : After-first_refusal-2) → None (counted-by (job_in c.args.job.now) ++ lanes-of (job_in c.args.job.now))
lanes_passed c =
    let before = (goal.at.After-first_refusal-2 c).After-first_refusal in
    none_append (counts_passed before)
    (sound_none (lanes-of (job_in c.args.job.now)) c.in_ok-first_refusal.was (lanes_judged before))

pub returns-in_err-first_refusal : goal.returns-in_err-first_refusal
returns-in_err-first_refusal c =
    let j = job_in c.args.job.now in
    let at = (goal.at.returns-in_err-first_refusal c).After-first_refusal in
    returned_behind (counted-by j) (lanes-of j) (closed_of j ++ moves_of j) (counts_passed at)
    c.in_err-first_refusal.was (lanes_judged at) _ c.from_residual-in_err-first_refusal.ensures.1

pub returns-in_err-first_refusal-2 : goal.returns-in_err-first_refusal-2
returns-in_err-first_refusal-2 c =
    let j = job_in c.args.job.now in
    let at = (goal.at.returns-in_err-first_refusal-2 c).After-first_refusal-2 in
    returned_behind (counted-by j ++ lanes-of j) (closed_of j) (moves_of j) (lanes_passed at)
    c.in_err-first_refusal-2.was (closed_judged at) _ c.from_residual-in_err-first_refusal-2.ensures.1

pub returns : goal.returns
returns c =
    let j = job_in c.args.job.now in
    let at = (goal.at.returns c).After-first_refusal-2 in
    judged_after ((counted-by j ++ lanes-of j) ++ closed_of j) (moves_of j)
    (none_append (lanes_passed at) (sound_none (closed_of j) c.in_ok-first_refusal-2.was (closed_judged at)))
    c.first_refusal-3.result
    (moves_judged (goal.at.returns c).After-first_refusal-3)
