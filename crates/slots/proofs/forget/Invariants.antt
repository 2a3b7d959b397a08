-- The loop of `slots::forget`: the slots that are passed are as they are to be, the others as they came.
use Rattle.std.proofs.Common.{◌≡◌}
use Rattle.slots.specs.Record.{forgotten}
use Rattle.slots.proofs.Lists.{doneTo}
use Rattle.slots.proofs.forget.Given as goal

abbrev pub invariant-loop-slot : goal.invariant-loop-slot
invariant-loop-slot l = l.slot-items ≡ doneTo (forgotten l.book.dwell l.clock) l.slot-index l.book.slots
