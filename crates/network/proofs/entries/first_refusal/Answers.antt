-- Past the last entry every check is passed; and the first that refuses is answered.
use Rattle.std.proofs.Common.{arith}
use Rattle.std.proofs.lemmas.Result.{err_from_is_err_and}
use Rattle.network.specs.Entries.{all_passed, refused_at}
use Rattle.network.proofs.entries.first_refusal.Goals as goal

pub returns-in_err-check : goal.returns-in_err-check
returns-in_err-check g c =
    let p = err_from_is_err_and c.from_residual.result c.from_residual.ensures.1 in
    rw (p.1, p.2) (refused_at c.loop-k.k c.loop-k-test.true c.in_err-check.ensures c.loop-k.invariant)

pub returns : goal.returns
returns g c = all_passed (λ k l. c.loop-k.invariant k (omega arith))
