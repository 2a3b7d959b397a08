-- What is planned of the loaded moves is the plan of the records' moves, and the records that are written have
-- its distances and ticks, or stay as they came after a refusal (`PlanRecords.antt` of crate `recorded`).
use Rattle.recorded.proofs.PlanRecords.{records_planned}
use Rattle.jobs.proofs.plan.Goals as goal

pub returns : goal.returns
returns c =
    records_planned _ _ _ _ _ _ _ _ _ _ (rw c.loaded-moves.ensures at c.plan_loaded-answer.ensures)
    (rw c.stored_count-count.ensures at c.store_times.ensures)
