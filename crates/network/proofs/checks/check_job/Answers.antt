-- The checks up to the order's entries, then those of the order behind them.
use Rattle.std.proofs.Common.{[], ◌∷◌, length, rules}
use Rattle.hall.specs.Job.{Numbers, job_in, carriers}
use Rattle.hall.specs.Questions.{order_checks, each_order_place, moves_question, checks_question}
use Rattle.hall.proofs.Compose.{first_before, refused_first, judged_then}
use Rattle.network.proofs.EachEntry.{each_judged, returned}
use Rattle.network.proofs.checks.check_job.Goals as goal

pub returns-in_err-check_moves : goal.returns-in_err-check_moves
returns-in_err-check_moves c =
    let j = job_in c.args.job.now in
    let first = refused_first (moves_question j) c.in_err-check_moves.was c.check_moves.ensures in
    returned (checks_question j) _ _ c.from_residual.ensures.1
    (first_before (each_order_place (carriers j) j.order ∷ []) first)

pub returns : goal.returns
returns c =
    let j : Numbers = job_in c.args.job.now in
    judged_then (moves_question j) (each_order_place (carriers j) j.order ∷ []) c.in_ok-check_moves.was
    c.check_moves.ensures
    c.first_refusal.result
    (each_judged (order_checks (carriers j) j.order) (length j.order) c.first_refusal.ensures (λ k r h. search rules))
