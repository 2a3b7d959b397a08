-- The moves that are loaded are those of the records, as far as an answer goes, so what is written of them is
-- what is promised of the records (`WriteRecords.antt` of crate `recorded`).
use Rattle.recorded.proofs.WriteRecords.{records_written}
use Rattle.jobs.proofs.write_job.Goals as goal

pub returns : goal.returns
returns c = records_written _ _ _ _ _ _ _ (rw c.loaded-moves.ensures at c.write_loaded.ensures)
