-- A lane more is looked at in both directions; and with all of them looked at the best so far is the lowest.
use Rattle.std.proofs.Common.{◌*◌, ◌+◌, ◌≡◌, arith}
use Rattle.path.proofs.NextNode.{seeking_lane, seeking_all}
use Rattle.path.proofs.next_node.Goals as goal

pub loop-k-preserved : goal.loop-k-preserved
loop-k-preserved c =
    let k = c.loop-k.k in
    let next : 2 * (k + 1) ≡ 2 * k + 2 = omega arith in
    rw next
    (seeking_lane {i = 2 * k} (omega arith) (omega (arith, c.loop-k-test.true)) c.loop-k.invariant
    c.nearer-best.ensures c.nearer-best-in-loop-k.ensures)

pub returns : goal.returns
returns c = seeking_all c.loop-k.invariant (omega (arith, c.loop-k-test.false))
