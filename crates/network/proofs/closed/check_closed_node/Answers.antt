-- An entry is refused where `closed_fault` answers that it is faulty.
use Rattle.hall.proofs.Answers.{affirmed}
use Rattle.hall.proofs.Compose.{answered}
use Rattle.hall.proofs.Places.{asked_here}
use Rattle.network.proofs.closed.check_closed_node.Goals as goal

pub returns-then-closed_fault : goal.returns-then-closed_fault
returns-then-closed_fault c =
    answered c.refused.ensures (asked_here (affirmed _ c.if-closed_fault.true c.closed_fault.ensures))
