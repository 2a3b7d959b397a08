-- `admission::checks::check_known` meets its contract: where all but the move is known to pass, what holds of
-- the move is what holds of the call. Assumes nothing.
use Rattle.std.proofs.Common.{[], ◌∷◌, refl, Err}
use Rattle.std.proofs.lemmas.Result.{err_from_is_err_and}
use Rattle.hall.specs.declared.Fault.TheVariants.{Unreachable}
use Rattle.hall.specs.Floor.{NoWalk, network_in, floor}
use Rattle.hall.specs.Stages.{asked, only_at}
use Rattle.hall.specs.Questions.{ends}
use Rattle.hall.proofs.Compose.{refused_first, first_before, first_after, not_both}
use Rattle.admission.proofs.SoundAfter.{settled_judged}
use Rattle.admission.proofs.checks.check_known.Goals as goal

pub returns-in_err-check_ends : goal.returns-in_err-check_ends
returns-in_err-check_ends c =
    let a = c.args in
    let N = network_in a.network.now in
    let s = a.ends.start in
    let g = a.ends.goal in
    let known = c.requires c.if-not-known.false in
    let of_ends = only_at 0 (ends N.nodes N.closed (λ i. s) (λ i. g)) in
    let of_walk = asked Unreachable 0 (NoWalk (floor N) s g) ∷ [] in
    let p = err_from_is_err_and c.from_residual.result c.from_residual.ensures.1 in
    rw (p.1, p.2) (record {
      judged =
          settled_judged N a.book.now a.t s g known (Err c.in_err-check_ends.field-0.0)
          (first_before of_walk (first_after known.of_network (refused_first of_ends c.in_err-check_ends.was c.check_ends.ensures)));
      rows = λ e. absurd (not_both refl e);
    })

pub returns : goal.returns
returns c =
    let a = c.args in
    let known = c.requires c.if-not-known.false in
    record {
      judged = settled_judged (network_in a.network.now) a.book.now a.t a.ends.start a.ends.goal known c.check_walk.result c.check_walk.ensures.judged;
      rows = c.check_walk.ensures.rows;
    }
