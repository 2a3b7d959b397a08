-- The invariant of `shut` is `Shutting`.
use Rattle.std.proofs.Common.{length}
use Rattle.walk.proofs.WalkMarks.{Shutting}
use Rattle.walk.proofs.shut.Given as goal

abbrev pub invariant-loop-node : goal.invariant-loop-node
invariant-loop-node l = Shutting (length l.initial.row) l.closed l.initial.row l.row l.node-index
