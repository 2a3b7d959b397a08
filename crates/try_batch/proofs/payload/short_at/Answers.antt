-- The number of the first two bytes of the rest of a payload is a number of the payload.
use Rattle.std.proofs.Common.{arith}
use Rattle.try_batch.specs.Payloads.{short_in}
use Rattle.try_batch.proofs.Payloads.{short_of}
use Rattle.try_batch.proofs.payload.short_at.Goals as goal

pub returns : goal.returns
unfolding short_in
returns c =
    let whole = short_of c.args.s.now c.args.at c.rest-part.ensures in
    omega (arith, whole, c.byte_at.ensures, c.byte_at-2.ensures, c.from_le_bytes.ensures)
