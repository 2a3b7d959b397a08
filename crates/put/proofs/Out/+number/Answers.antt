-- The digits of the tenth and the last one behind them are the number's digits.
use Rattle.std.proofs.Common.{refl, arith}
use Rattle.put.proofs.Digits.{ten_up}
use Rattle.put.proofs.Putting.{puts_then}
use Rattle.put.proofs.Out.+number.Goals as goal

pub returns-else-n-lt10000 : goal.returns-else-n-lt10000
returns-else-n-lt10000 t c =
    rw (ten_up c.args.n (omega arith))
    (puts_then c.number.ensures (record { same_list = refl; put = c.digit_at-self.ensures }))
