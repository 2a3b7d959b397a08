-- `admission::stale::check_held` meets its contract: once all slots below the lowest stale one are judged,
-- it is the first, or there is none. Assumes nothing.
use Rattle.std.proofs.Common.{arith}
use Rattle.hall.specs.Floor.{network_in}
use Rattle.hall.proofs.Compose.{first_here}
use Rattle.admission.proofs.StaleSlots.{sieved_first, sieved_none}
use Rattle.admission.proofs.stale.check_held.Goals as goal

pub returns-then-lowest-lt-SLOTS : goal.returns-then-lowest-lt-SLOTS
returns-then-lowest-lt-SLOTS c =
    let a = c.args in
    rw c.new.ensures (first_here (sieved_first (network_in a.network.now) a.book.now.dwell a.t a.book.now.slots c.requires.2 c.loop-i.invariant (omega arith) (omega arith)))

pub returns : goal.returns
returns c =
    let a = c.args in
    sieved_none (network_in a.network.now) a.book.now.dwell a.t a.book.now.slots c.requires.2 c.loop-i.invariant (omega arith) (omega arith)
