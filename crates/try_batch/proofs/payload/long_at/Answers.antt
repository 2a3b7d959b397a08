-- The number of the first four bytes of the rest of a payload is a number of the payload.
use Rattle.std.proofs.Common.{arith}
use Rattle.try_batch.specs.Payloads.{short_in, long_in}
use Rattle.try_batch.proofs.Payloads.{long_of}
use Rattle.try_batch.proofs.payload.long_at.Goals as goal

pub returns : goal.returns
unfolding short_in long_in
returns c =
    let whole = long_of c.args.s.now c.args.at c.rest-part.ensures in
    omega (
      arith,
      whole,
      c.byte_at.ensures,
      c.byte_at-2.ensures,
      c.byte_at-3.ensures,
      c.byte_at-4.ensures,
      c.from_le_bytes.ensures,
    )
