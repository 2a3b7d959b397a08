-- A place is refused where `order_fault` answers that its entry is faulty.
use Rattle.hall.proofs.Answers.{affirmed}
use Rattle.hall.proofs.Compose.{answered}
use Rattle.hall.proofs.Places.{asked_here}
use Rattle.network.proofs.checks.check_place.Goals as goal

pub returns-then-order_fault : goal.returns-then-order_fault
returns-then-order_fault c =
    answered c.refused.ensures (asked_here (affirmed _ c.if-order_fault.true c.order_fault.ensures))
