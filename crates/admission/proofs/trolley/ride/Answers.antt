-- `admission::trolley::ride` meets its contract: 9, then 2, then the moves one by one over a list that is
-- zero up to 64 places. Assumes nothing.
use Rattle.std.proofs.Common.{refl, arith}
use Rattle.hall.specs.Floor.{network_in}
use Rattle.hall.proofs.Compose.{none_at_all}
use Rattle.hall.proofs.Places.{asked_here, asked_later, asked_clear}
use Rattle.admission.specs.Trolley.{not_begun}
use Rattle.admission.proofs.Riding.{ridden}
use Rattle.admission.proofs.trolley.ride.Goals as goal

pub returns-then-ticks-lt-CARRIERS : goal.returns-then-ticks-lt-CARRIERS
returns-then-ticks-lt-CARRIERS c = rw c.new.ensures (not_begun (asked_here (omega arith)) refl refl)

pub returns-then-moves-gt-CARRIERS : goal.returns-then-moves-gt-CARRIERS
returns-then-moves-gt-CARRIERS c =
    rw c.new-then-moves-gt-CARRIERS.ensures (not_begun (asked_later (omega arith) (asked_here (omega arith))) refl c.fill_first.ensures)

pub returns : goal.returns
returns c =
    let a = c.args in
    ridden (network_in a.network.now) a.book a.clock a.moves.now a.ticks.now (omega arith) (omega arith)
    (asked_clear (omega arith) (asked_clear (omega arith) none_at_all))
    (rw c.fill_first.ensures at c.ride_moves.ensures)
