-- The invariant of `next_node` is `Seeking`: the lanes before lane k are looked at in both directions.
use Rattle.std.proofs.Common.{◌*◌}
use Rattle.path.proofs.NextNode.{Seeking}
use Rattle.path.proofs.next_node.Given as goal

abbrev pub invariant-loop-k : goal.invariant-loop-k
invariant-loop-k l = Seeking l.lanes l.row l.u l.wanted (2 * l.k) l.best
