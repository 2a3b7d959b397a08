-- The loop of `slots::lowest_free`: no slot before `place` is free.
use Rattle.std.proofs.Common.{◌≢◌, ℕ, ◌<◌}
use Rattle.slots.specs.Record.{free, slot_at}
use Rattle.slots.proofs.lowest_free.Given as goal

abbrev pub invariant-loop-place : goal.invariant-loop-place
invariant-loop-place l = (j : ℕ) → j < l.place → slot_at l.book.slots j ≢ free
