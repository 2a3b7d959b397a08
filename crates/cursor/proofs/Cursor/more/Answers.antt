-- While a digit may still come the value is below 1000, so that ten times it and the digit fit, and one fewer may
-- come behind it.
use Rattle.std.proofs.Common.{◌≡◌, ◌+◌, ◌-◌, arith}
use Rattle.cursor.proofs.Parts.{digits_next}
use Rattle.cursor.proofs.Cursor.more.Goals as goal

pub loop-preserved : goal.loop-preserved
loop-preserved c =
    let one_less : 3 - (c.loop.counter + 1) ≡ 3 - c.loop.counter - 1 = omega arith in
    rw one_less (digits_next _ _ _ _ _ _ _ _ (omega arith) c.loop.invariant c.in-Some.ensures)
