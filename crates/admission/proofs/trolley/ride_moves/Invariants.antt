-- The loop of `admission::trolley::ride_moves`: the moves before k are admitted (`Underway`).
use Rattle.std.proofs.Common.{◌≡◌}
use Rattle.hall.specs.Floor.{network_in}
use Rattle.hall.specs.Job.{move_count}
use Rattle.admission.proofs.Riding.{Underway}
use Rattle.admission.proofs.trolley.ride_moves.Given as goal

abbrev pub invariant-loop-k : goal.invariant-loop-k
invariant-loop-k l =
    Underway (network_in l.network) l.initial.held l.clock l.moves l.initial.ticks l.k l.held l.ticks
    × (l.count ≡ move_count l.moves)
