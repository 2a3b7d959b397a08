-- After i records the list is the one that was lent with the first i placed.
use Rattle.std.proofs.Common.{◌≡◌}
use Rattle.records.specs.Table.{placed}
use Rattle.records.proofs.store_moves.Given as goal

abbrev pub invariant-loop-i : goal.invariant-loop-i
invariant-loop-i l = l.records ≡ placed l.i l.initial.records l.moves
