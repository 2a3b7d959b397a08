-- After i records the list is the one that was lent with the first i timed.
use Rattle.std.proofs.Common.{◌≡◌}
use Rattle.records.specs.Table.{timed}
use Rattle.records.proofs.store_times.Given as goal

abbrev pub invariant-loop-i : goal.invariant-loop-i
invariant-loop-i l = l.records ≡ timed l.i l.initial.records l.distances l.ticks
