-- The loop of `admission::stale::check_held`: the starts of the slots before place i are sieved. The measure
-- is how many slots are left.
use Rattle.std.proofs.Common.{◌-◌}
use Rattle.hall.specs.Floor.{network_in}
use Rattle.admission.specs.Steps.{Sieved}
use Rattle.admission.proofs.stale.check_held.Given as goal

abbrev pub invariant-loop-i : goal.invariant-loop-i
invariant-loop-i l = Sieved (network_in l.network) l.book.dwell l.t l.book.slots l.i l.lowest

abbrev pub decreases-loop-i : goal.decreases-loop-i
decreases-loop-i l = 64 - l.i
