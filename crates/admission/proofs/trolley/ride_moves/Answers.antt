-- `admission::trolley::ride_moves` meets its contract: the trolley sets out with no move admitted, goes on
-- with each that is, stops at one that is refused, and arrives when none is left. Assumes nothing.
use Rattle.std.proofs.Common.{refl, arith}
use Rattle.hall.specs.Floor.{network_in}
use Rattle.admission.proofs.Riding.{sets_out, goes_on, stops, arrives}
use Rattle.admission.proofs.trolley.ride_moves.Goals as goal

pub loop-k-init : goal.loop-k-init
loop-k-init c =
    let a = c.args in
    (sets_out (network_in a.network.now) a.book a.clock a.moves.now a.ticks.now, refl)

pub returns-in-Err : goal.returns-in-Err
returns-in-Err c =
    let a = c.args in
    stops (network_in a.network.now) a.book a.clock a.moves.now a.ticks.now c.loop-k.invariant.0 (omega arith)
    (rw c.in-Err.is at c.admit_known-done.ensures).0

pub loop-k-preserved : goal.loop-k-preserved
loop-k-preserved c =
    let a = c.args in
    let done = rw c.in-Ok.is at c.admit_known-done.ensures in (
      goes_on (network_in a.network.now) a.book a.clock a.moves.now a.ticks.now c.loop-k.invariant.0 (omega arith) (omega arith) done.0 done.1,
      c.loop-k.invariant.1,
    )

pub returns : goal.returns
returns c =
    let a = c.args in
    arrives (network_in a.network.now) a.book a.clock a.moves.now a.ticks.now c.loop-k.invariant.0 (omega arith)
