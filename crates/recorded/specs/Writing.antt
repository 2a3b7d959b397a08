-- What writing a job as its text promises, with the records lent as one list (rules 7.15, 8.30, 9.3 and
-- 9.14). What is answered and left of a job's numbers is that of crate writer. A network or a list with ' is
-- as the question leaves it.
--     RecordWriting   the text of the job in the output, or the first fault and what that leaves there; the
--                     network, the records and the order are as they came
use Rattle.std.specs.Prelude.{List, ℕ, Result}
use Rattle.hall.specs.declared.Refusal.{Refusal}
use Rattle.hall.specs.Floor.{Network}
use Rattle.records.specs.declared.Record.{Record}
use Rattle.writer.specs.Writing.{said_written, Writing}
use Rattle.recorded.specs.Job.{record_job}
use Rattle.recorded.specs.Asking.{RecordsKept}

pub record RecordWriting (N N' : Network) (records records' : List Record) (order order' : List ℕ)
    (dwell : ℕ) (out out' : List ℕ) (r : Result ℕ Refusal) : Type 0 where
  pub given : Writing (record_job N records order dwell) out out' (said_written r)
  pub kept : RecordsKept N N' records records' order order'
