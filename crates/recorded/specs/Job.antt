-- The job whose numbers are lent, with the carriers' records as one list (rules 1.6 and 3.10): how long a
-- list is tells its count, and whatever distances and ticks the records bring along, nobody looks at them.
--     record_job     the job of a network, the records, an order and a dwell. Only the starts and goals of the
--                   records enter
use Rattle.std.specs.Prelude.{List, ℕ}
use Rattle.hall.specs.Floor.{Network}
use Rattle.hall.specs.Job.{Numbers, job_of}
use Rattle.records.specs.declared.Record.{Record}
use Rattle.records.specs.Table.{moves_of}

abbrev pub record_job : (N : Network) (records : List Record) (order : List ℕ) (dwell : ℕ) → Numbers
record_job N records order dwell = job_of N (moves_of records) order dwell
