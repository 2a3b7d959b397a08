-- At the start no line is put; each turn puts one more, its numbers one by one; and what is left at the end is no
-- line.
use Rattle.std.proofs.Common.{arith, ◌≡◌, ◌∙◌, ◌-◌}
use Rattle.put.proofs.Putting.{puts_none}
use Rattle.writer.proofs.Lines.{up_to_none, up_to_more, up_to_all, first_row, no_row, next_number, last_number}
use Rattle.writer.proofs.put_lines.Goals as goal

pub loop-line-init : goal.loop-line-init
loop-line-init g c =
    let begin = c.chunks_exact-line-items.ensures in
    rw c.into_iter-line-iterator.ensures.into_iter_gives (begin.size, rw begin.rest (up_to_none _ _))

pub loop-k-init : goal.loop-k-init
loop-k-init g c =
    let kept = c.loop-line.invariant in
    let next = c.in-Some.ensures.steps in
    up_to_more kept.1 (puts_none _) (first_row _ c.requires _ c.in-Some.line.now _ next.1.0 (next.1.1 ∙ kept.0))

pub loop-k-preserved : goal.loop-k-preserved
loop-k-preserved g c =
    let line = c.in-Some.ensures.steps.1.1 ∙ c.loop-line.invariant.0 in
    up_to_more c.loop-k.invariant (rw c.from.ensures at c.field.ensures)
    (next_number c.in-Some.line.now c.loop-k.k _ (omega arith))

pub loop-line-preserved : goal.loop-line-preserved
loop-line-preserved g c =
    let kept = c.loop-line.invariant in
    let next = c.in-Some.ensures.steps in
    let line = next.1.1 ∙ kept.0 in
    let last : g.row.N - 1 ≡ c.loop-k.k = omega arith in (
      next.0 ∙ kept.0,
      up_to_more c.loop-k.invariant (rw (c.from-in-loop-line.ensures, last) at c.field-in-loop-line.ensures)
          (last_number c.in-Some.line.now c.loop-k.k _ (omega arith)),
    )

pub returns : goal.returns
returns g c =
    let next = c.in-None.ensures.steps in
    up_to_all c.loop-line.invariant.1 (no_row _ _ (omega arith))
