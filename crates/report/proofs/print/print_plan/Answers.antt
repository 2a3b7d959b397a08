-- A word, a field, the carriers' lines, a word and a field, one behind the other, at the front of the
-- bytes, and zeros behind them; the text fits into 2,048 bytes.
use Rattle.std.proofs.Common.{rules, refl, arith}
use Rattle.put.proofs.Putting.{puts_then}
use Rattle.report.specs.Printing.{Askable, PlanPrinting}
use Rattle.report.proofs.Lines.{plan_parts, plan_fits}
use Rattle.report.proofs.Printing.{put_prints}
use Rattle.report.proofs.print.print_plan.Goals as goal

pub returns : goal.returns
returns c =
    let a = c.args in
    let ask : Askable a.carriers a.distances.now a.ticks.now a.out.now =
    record { few = omega arith; distance_each = omega arith; tick_each = omega arith; room = omega arith } in
    let last = puts_then c.word-2.ensures c.field-2.ensures in
    let tail = puts_then c.put_carriers.ensures last in
    let puts = puts_then c.word.ensures (puts_then c.field.ensures tail) in
    let text = rw (← plan_parts _ _ _ _) at puts in
    let fits = plan_fits a.carriers _ _ a.cost ask.few
    (λ i. (c.type_inv.ticks i).fits) (λ i. (c.type_inv.distances i).fits) c.ranges.cost.fits in
    PlanPrinting.whole ask (put_prints refl fits ask.room text c.zero_rest.ensures (search rules))
