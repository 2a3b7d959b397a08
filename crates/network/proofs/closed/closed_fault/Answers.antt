-- A later entry that is a node is faulty exactly if it is not higher than the entry before.
use Rattle.std.proofs.Common.{refl, arith}
use Rattle.network.proofs.ClosedList.{later_entry_told}
use Rattle.network.proofs.closed.closed_fault.Goals as goal

pub returns-then-k-gt0 : goal.returns-then-k-gt0
returns-then-k-gt0 c =
    later_entry_told c.args.nodes c.args.closed.now c.args.k _ c.if-k-closed.false refl _ refl c.if-node-nodes.false
    (λ z. omega (arith, c.if-k-gt0.true))
