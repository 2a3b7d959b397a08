-- What is read beside the records, with the records made of the moves that it left, is what is promised
-- (`ReadRecords.antt` of crate `recorded`); no table changes its length.
use Rattle.recorded.proofs.ReadRecords.{records_read}
use Rattle.jobs.proofs.read_job.Goals as goal

pub returns : goal.returns
returns c =
    let read = c.read_beside-answer in
    records_read _ _ _ _ _ _ _ _ _ _ _
    (rw (read.auto.lanes, read.auto.closed, read.auto.order) at c.placed_count-count.ensures)
    c.store_moves.ensures _ read.ensures
