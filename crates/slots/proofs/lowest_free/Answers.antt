-- `slots::lowest_free` meets its contract: the first slot that the test says is free is the lowest one, and
-- one that the test says is taken joins those before it. Assumes nothing.
use Rattle.std.proofs.Common.{arith}
use Rattle.slots.specs.Record.{found, none_free}
use Rattle.slots.proofs.Slots.{free_by}
use Rattle.slots.proofs.lowest_free.Goals as goal

pub returns-then-is_free : goal.returns-then-is_free
returns-then-is_free c =
    found (record {
      inside = omega arith;
      is_free = free_by _ c.is_free.ensures c.if-is_free.true;
      lowest = c.loop-place.invariant;
    })

pub returns : goal.returns
returns c = none_free (λ j l. c.loop-place.invariant j (omega arith))
