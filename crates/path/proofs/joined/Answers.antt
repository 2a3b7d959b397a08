-- If lane k joins a and b neither way round, no lane before lane k + 1 joins them, and with all lanes passed none
-- does.
use Rattle.std.proofs.Common.{◌*◌, ◌+◌, ◌≡◌, arith}
use Rattle.path.proofs.LaneScan.{other_pair, passed_none, passed_more, passed_all}
use Rattle.path.proofs.joined.Goals as goal

pub loop-k-init : goal.loop-k-init
loop-k-init c = passed_none c.args.lanes.now c.args.a c.args.b

pub loop-k-preserved : goal.loop-k-preserved
loop-k-preserved c =
    let k = c.loop-k.k in
    let next : 2 * (k + 1) ≡ 2 * k + 2 = omega arith in
    rw next
    (passed_more c.args.lanes.now c.args.a c.args.b (2 * k) (omega arith)
    (other_pair _ _ _ _ c.if-eq.ensures) (other_pair _ _ _ _ c.if-eq-2.ensures) c.loop-k.invariant)

pub returns : goal.returns
returns c =
    passed_all c.args.lanes.now c.args.a c.args.b (2 * c.loop-k.k) c.loop-k.invariant
    (omega (arith, c.loop-k-test.false))
