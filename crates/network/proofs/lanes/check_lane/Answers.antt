-- A lane is refused where `lane_fault` answers that it is faulty.
use Rattle.hall.proofs.Answers.{affirmed}
use Rattle.hall.proofs.Compose.{answered}
use Rattle.hall.proofs.Places.{asked_here}
use Rattle.network.proofs.lanes.check_lane.Goals as goal

pub returns-then-lane_fault : goal.returns-then-lane_fault
returns-then-lane_fault c =
    answered c.refused.ensures (asked_here (affirmed _ c.if-lane_fault.true c.lane_fault.ensures))
