-- The invariant: the sum is that of the goal ticks of the first i carriers, and at most 4,295,032,830 for each of
-- them, since a tick has 32 bits and a distance 16.
use Rattle.std.proofs.Common.{◌*◌, ◌≤◌, ◌≡◌, get_or}
use Rattle.hall.specs.Ticks.{cost_of}
use Rattle.hall.specs.Plan.{tables_in}
use Rattle.ticks.proofs.cost.Given as goal

abbrev pub invariant-loop-i : goal.invariant-loop-i
invariant-loop-i l =
    (l.sum ≤ 4295032830 * l.i) × (l.sum ≡ cost_of (tables_in l.table) (λ j. get_or l.ticks j 0) l.i)
