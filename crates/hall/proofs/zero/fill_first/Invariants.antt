-- The invariant of `fill_first`: of the part that is filled, the places passed have the value.
use Rattle.std.proofs.Common.{◌≡◌, take}
use Rattle.hall.specs.Left.{with_front}
use Rattle.hall.proofs.zero.fill_first.Given as goal

abbrev pub invariant-loop-place : goal.invariant-loop-place
invariant-loop-place g l = l.place-items ≡ with_front l.value l.place-index (take l.end l.fn.list)
