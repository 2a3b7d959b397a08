-- Each turn puts one byte more behind those that stand, and at the end the bytes passed are the word.
use Rattle.std.proofs.Common.{arith, take_all}
use Rattle.put.proofs.Putting.{puts_none, puts_more}
use Rattle.put.proofs.Out.word.Goals as goal

pub loop-b-init : goal.loop-b-init
loop-b-init c = puts_none _

pub loop-b-preserved : goal.loop-b-preserved
loop-b-preserved c = puts_more _ c.loop-b.b-index (omega arith) c.loop-b.invariant c.byte.ensures

pub returns : goal.returns
returns c = rw (take_all c.loop-b.b-index c.args.word.now (omega arith)) at c.loop-b.invariant
