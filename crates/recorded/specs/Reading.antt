-- What reading a job text into lent tables promises, for every input (rules 7.13, 7.17, 7.18, 8.21, 9.1, 9.5
-- and 9.6): it fills lanes, closed nodes, records and order, and answers the dwell with the counts. When a
-- text is accepted as which job, and refused with which number at which line, is said in crate form. A list
-- with ' is as the question leaves it.
--     LentShort       9: lanes, closed nodes, records or order have fewer places than their least lengths;
--                     `RecordsShort` by the tables' lengths
--     records_of       the records of the moves of a job, by carrier number, with distance and tick zero
--     filled_records   the records of those moves, blank ones up to the 64th, and what stood beyond
--     left_records     the records after the refusal with a number: 9 leaves them as they came, every other
--                     leaves 64 blank ones
--     JobAccepted     no table is too short, the text is the written form of a job without faults, these are
--                     its counts and its dwell, and the tables are filled with its numbers
--     JobRefused      there is a reason (reader's `Reason`: 9 at line 0, or what the form says of the text),
--                     and this is left in the tables
--     GivenJob        what is left with what is said: accepted or refused so
--     ReadLeft        the promise: that, and the text is as it came
--     job_as_read         the job that the counts of an answer cut out of the tables, with the dwell that is
--                     answered: the numbers that a caller hands on to planning
use Rattle.std.specs.Prelude.{◌≡◌, ◌⊎◌, cond, List, [], ◌∷◌, ◌++◌, ℕ, ◌*◌, ◌-◌, ◌<◌, length, take, drop, replicate, eqb, Result}
use Rattle.hall.specs.declared.Job.{Job}
use Rattle.hall.specs.declared.Refusal.{Refusal}
use Rattle.hall.specs.Limits.{node_limit, carrier_limit, lane_numbers}
use Rattle.hall.specs.Floor.{network_of}
use Rattle.hall.specs.Job.{Numbers}
use Rattle.hall.specs.Said.{Said, accepted, refused}
use Rattle.hall.specs.Left.{filled, left}
use Rattle.records.specs.declared.Record.{Record}
use Rattle.records.specs.Table.{blank, fresh}
use Rattle.form.specs.Jobs.{WrittenJob}
use Rattle.reader.specs.Reading.{said_read, counts_of, Reason}
use Rattle.recorded.specs.Job.{record_job}

abbrev pub RecordsShort : (lanes closed records order : ℕ) → Type 0
RecordsShort lanes closed records order =
    (lanes < lane_numbers) ⊎ ((closed < node_limit) ⊎ ((records < carrier_limit) ⊎ (order < carrier_limit)))

abbrev pub LentShort : (lanes closed : List ℕ) (records : List Record) (order : List ℕ) → Type 0
LentShort lanes closed records order =
    RecordsShort (length lanes) (length closed) (length records) (length order)

-- ---- records

abbrev pub records_of : List ℕ → List Record
records_of [] = []
records_of (s ∷ []) = []
records_of (s ∷ g ∷ moves) = fresh s g ∷ records_of moves

unfoldable pub filled_records : (moves : List ℕ) (records : List Record) → List Record
filled_records moves records =
    records_of moves
    ++ (replicate (carrier_limit - length (records_of moves)) blank ++ drop carrier_limit records)

abbrev pub left_records : (number : ℕ) → List Record → List Record
left_records number records = cond (eqb number 9) records (filled_records [] records)

-- ---- the promise

module _ (text lanes closed : List ℕ) (records : List Record) (order : List ℕ) where
  pub record JobAccepted (lanes' closed' : List ℕ) (records' : List Record) (order' : List ℕ) (counts : Job)
      : Type 0 where
    pub long : ¬ LentShort lanes closed records order
    pub job : Numbers
    pub writes : WrittenJob text job
    pub is_counts : counts ≡ counts_of job
    pub lanes_left_lem : lanes' ≡ filled job.network.lanes lane_numbers lanes
    pub closed_left : closed' ≡ filled job.network.closed node_limit closed
    pub records_left : records' ≡ filled_records job.moves records
    pub order_left : order' ≡ filled job.order carrier_limit order

  pub record JobRefused (lanes' closed' : List ℕ) (records' : List Record) (order' : List ℕ)
      (number line : ℕ) : Type 0 where
    pub reason : Reason (LentShort lanes closed records order) text number line
    pub lanes_left_lem : lanes' ≡ left number lane_numbers lanes
    pub closed_left : closed' ≡ left number node_limit closed
    pub records_left : records' ≡ left_records number records
    pub order_left : order' ≡ left number carrier_limit order

  abbrev pub GivenJob : (lanes' closed' : List ℕ) (records' : List Record) (order' : List ℕ) → Said Job
      → Type 0
  GivenJob lanes' closed' records' order' (accepted counts) =
      JobAccepted lanes' closed' records' order' counts
  GivenJob lanes' closed' records' order' (refused number line) =
      JobRefused lanes' closed' records' order' number line

pub record ReadLeft (text text' lanes lanes' closed closed' : List ℕ) (records records' : List Record)
    (order order' : List ℕ) (r : Result Job Refusal) : Type 0 where
  pub given : GivenJob text lanes closed records order lanes' closed' records' order' (said_read r)
  pub text_kept : text' ≡ text

abbrev pub job_as_read : (counts : Job) (lanes' closed' : List ℕ) (records' : List Record) (order' : List ℕ)
    → Numbers
job_as_read counts lanes' closed' records' order' =
    record_job
    (network_of counts.nodes (take (2 * counts.lanes) lanes') (take counts.closed closed'))
    (take counts.carriers records')
    (take counts.carriers order')
    counts.dwell
