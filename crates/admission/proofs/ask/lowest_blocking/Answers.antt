-- `admission::ask::lowest_blocking` meets its contract: the first slot that is told to block is the lowest
-- that does, and after all 64 there is none. Assumes nothing.
use Rattle.std.proofs.Common.{below_more, arith}
use Rattle.hall.proofs.Answers.{affirmed, denied}
use Rattle.admission.specs.Steps.{blocking, none_blocks}
use Rattle.admission.proofs.ask.lowest_blocking.Goals as goal

pub returns-then-blocks : goal.returns-then-blocks
returns-then-blocks c = blocking (omega arith) (affirmed _ c.if-blocks.true c.blocks-in-loop-i.ensures) c.loop-i.invariant

pub loop-i-preserved : goal.loop-i-preserved
loop-i-preserved c = below_more _ _ c.loop-i.invariant (denied _ c.if-blocks.false c.blocks-in-loop-i.ensures)

pub returns : goal.returns
returns c = none_blocks (λ j l. c.loop-i.invariant j (omega arith))
