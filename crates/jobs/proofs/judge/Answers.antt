-- The moves that are loaded are those of the records, as far as an answer goes, so what is said of a list is
-- what is promised of the records (`AskRecords.antt` of crate `recorded`).
use Rattle.recorded.proofs.AskRecords.{records_judged}
use Rattle.jobs.proofs.judge.Goals as goal

pub returns : goal.returns
returns c = records_judged _ _ _ _ _ _ _ (rw c.loaded-moves.ensures at c.judge_loaded.ensures)
