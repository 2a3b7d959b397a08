-- The digits, and the byte behind them.
use Rattle.put.specs.Digits.{field}
use Rattle.put.proofs.Putting.{puts_then}
use Rattle.put.proofs.Out.field.Goals as goal

pub returns : goal.returns
unfolding field
returns c = puts_then c.number.ensures c.byte.ensures
