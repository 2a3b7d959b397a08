-- The invariant of `copy_own`: the own distances of the first i carriers are copied, and nothing else
-- changed.
use Rattle.tables.specs.Measuring.{OwnCopied}
use Rattle.tables.proofs.copy_own.Given as goal

abbrev pub invariant-loop-i : goal.invariant-loop-i
invariant-loop-i l = OwnCopied l.table l.i l.initial.distances l.distances
