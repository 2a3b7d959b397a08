-- Nothing is loaded at first, each turn loads the number that comes next, and after the last the list holds what
-- the promise says.
use Rattle.std.proofs.Common.{arith}
use Rattle.try_batch.proofs.Payloads.{shorts_none, shorts_more, shorts_whole}
use Rattle.try_batch.proofs.payload.load.Goals as goal

pub loop-i-init : goal.loop-i-init
loop-i-init c = shorts_none

pub loop-i-preserved : goal.loop-i-preserved
loop-i-preserved c = shorts_more c.loop-i.invariant (omega arith) c.short_at.ensures

pub returns : goal.returns
returns c = shorts_whole c.loop-i.invariant (omega arith)
