-- What planning a job promises, for every input, with the records lent as one list (rules 8.23 and 9.7 to
-- 9.9): of a record it writes the distance and the tick and nothing else, and it fills the distance table. A
-- network or a list with ' is as the question leaves it.
--     record_question   the stages of planning: 9, if the table has fewer than 12,288 numbers, then those of
--                      the job (hall's `job_question`)
--     tick_of           a carrier's start tick in its record
--     distance_of       a carrier's distance in its record
--     RecordsLeft      as many records, each with its start and goal as it came, and with the carrier's own
--                      distance of the table
--     RecordsPlanned   the job has no fault; the table and the ticks in the records are its plan, with this
--                      cost; unused places of the table are zero
--     RecordsRefused   the refusal is the first fault. It leaves the records as they came; 9 leaves the table
--                      too, and any other zeroes it
--     GivenRecords     what is left with what is said: accepted or refused so
--     RecordPlanning   the promise: that, and network and order are as they came
use Rattle.std.specs.Prelude.{◌≡◌, List, ℕ, ◌<◌, length, Result}
use Rattle.hall.specs.declared.Refusal.{Refusal}
use Rattle.hall.specs.Limits.{table_length}
use Rattle.hall.specs.Floor.{Network}
use Rattle.hall.specs.Job.{Numbers, carriers}
use Rattle.hall.specs.Stages.{Question, First, None}
use Rattle.hall.specs.Said.{Said, accepted, refused}
use Rattle.hall.specs.Questions.{planning}
use Rattle.hall.specs.Left.{left}
use Rattle.hall.specs.Ticks.{Tables, own}
use Rattle.hall.specs.Plan.{Plan, tables_in}
use Rattle.tables.specs.Filling.{TableLeft}
use Rattle.planner.specs.Planning.{said_planned}
use Rattle.records.specs.declared.Record.{Record}
use Rattle.records.specs.Table.{record_at}
use Rattle.recorded.specs.Job.{record_job}

abbrev pub record_question : Numbers → (table : List ℕ) → Question
record_question j table = planning (length table < table_length) j

abbrev pub tick_of : List Record → ℕ → ℕ
tick_of records i = (record_at records i).tick

abbrev pub distance_of : List Record → ℕ → ℕ
distance_of records i = (record_at records i).distance

pub record RecordsLeft (t : Tables) (records records' : List Record) : Type 0 where
  pub as_many : length records' ≡ length records
  pub starts : (i : ℕ) → i < length records → (record_at records' i).start ≡ (record_at records i).start
  pub goals : (i : ℕ) → i < length records → (record_at records' i).goal ≡ (record_at records i).goal
  pub distances : (i : ℕ) → i < length records → (record_at records' i).distance ≡ own t i

pub record RecordsPlanned (j : Numbers) (records records' : List Record) (table table' : List ℕ) (cost : ℕ)
    : Type 0 where
  pub no_fault : None (record_question j table)
  pub plan : Plan j (tables_in table') (tick_of records') cost
  pub records_left : RecordsLeft (tables_in table') records records'
  pub table_left : TableLeft (carriers j) table table'

pub record RecordsRefused (j : Numbers) (records records' : List Record) (table table' : List ℕ) (n p : ℕ)
    : Type 0 where
  pub first : First (record_question j table) n p
  pub records_kept : records' ≡ records
  pub table_left : table' ≡ left n table_length table

abbrev pub GivenRecords : (j : Numbers) (records records' : List Record) (table table' : List ℕ) → Said ℕ
    → Type 0
GivenRecords j records records' table table' (accepted cost) =
    RecordsPlanned j records records' table table' cost
GivenRecords j records records' table table' (refused n p) =
    RecordsRefused j records records' table table' n p

pub record RecordPlanning (N N' : Network) (records records' : List Record) (order order' : List ℕ)
    (dwell : ℕ) (table table' : List ℕ) (r : Result ℕ Refusal) : Type 0 where
  pub given : GivenRecords (record_job N records order dwell) records records' table table' (said_planned r)
  pub network_kept : N' ≡ N
  pub order_kept : order' ≡ order
