-- The invariant of `lay` is `Laying`: the path is laid up to u, whichever nodes are closed, if the row is downhill
-- then. The measure is the number of lanes left to the goal.
use Rattle.std.proofs.Common.{List, ℕ, length}
use Rattle.hall.specs.Floor.{network_of}
use Rattle.path.specs.Steps.{Downhill}
use Rattle.path.proofs.Laying.{Laying}
use Rattle.path.proofs.lay.Given as goal

abbrev pub invariant-loop-u : goal.invariant-loop-u
invariant-loop-u l =
    (closed : List ℕ) →
    Downhill (network_of (length l.row) l.lanes closed) l.ends.start l.ends.goal l.row →
    Laying (network_of (length l.row) l.lanes closed) l.ends.start l.ends.goal
    l.initial.left l.initial.path l.u l.left l.at l.path

abbrev pub decreases-loop-u : goal.decreases-loop-u
decreases-loop-u l = l.left
