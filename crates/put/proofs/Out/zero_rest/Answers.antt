-- Each turn puts one zero more; the loop ends at the end of the list or at the least length.
use Rattle.std.proofs.Common.{refl, arith}
use Rattle.put.proofs.Putting.{zeros_none, zeros_more, zeros_done}
use Rattle.put.proofs.Out.zero_rest.Goals as goal

pub loop-i-init : goal.loop-i-init
loop-i-init c = (refl, refl, zeros_none)

pub loop-i-preserved : goal.loop-i-preserved
loop-i-preserved c =
    let kept = c.loop-i.invariant in
    (kept.0, kept.1, zeros_more kept.2 (omega arith))

pub returns : goal.returns
returns c =
    let kept = c.loop-i.invariant in
    record { same_list = kept.0; zeros = zeros_done kept.2 (omega arith); same_place = kept.1 }
