-- After i records the list is `load_to i` of the one that was lent (`Lists.antt`).
use Rattle.std.proofs.Common.{◌≡◌}
use Rattle.records.proofs.Lists.{load_to}
use Rattle.records.proofs.load_moves.Given as goal

abbrev pub invariant-loop-i : goal.invariant-loop-i
invariant-loop-i l = l.moves ≡ load_to l.i l.records l.initial.moves
