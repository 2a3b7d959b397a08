-- The moves that are loaded are those of the records, as far as an answer goes, so the house path of one of
-- their carriers is what is promised of the records (`AskRecords.antt` of crate `recorded`).
use Rattle.recorded.proofs.AskRecords.{records_housed}
use Rattle.jobs.proofs.house.Goals as goal

pub returns : goal.returns
returns c = records_housed _ _ _ _ _ _ _ _ (rw c.loaded-moves.ensures at c.house_loaded.ensures)
