-- `admission::stale::lowest_by` meets its contract: the first slot that is told to be stale is the lowest one.
-- Assumes nothing.
use Rattle.std.proofs.Common.{arith}
use Rattle.hall.proofs.Answers.{affirmed}
use Rattle.admission.specs.Steps.{stale, none_stale}
use Rattle.admission.proofs.stale.lowest_by.Goals as goal

pub returns-then-stale_by : goal.returns-then-stale_by
returns-then-stale_by c = stale c.loop-p-test.true (affirmed _ c.if-stale_by.true c.stale_by.ensures) c.loop-p.invariant

pub returns : goal.returns
returns c = none_stale (λ p l h. c.loop-p.invariant p (omega arith) h)
