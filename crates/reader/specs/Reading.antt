-- What reading a job text answers, and what it leaves in the lent tables (rules 7.6 to 7.13, 7.17, 7.18, 8.9,
-- 8.21, 8.29 and 9.1 to 9.6). When a text is accepted as which job, and refused with which number at which
-- line, is said in crate form, of written lines alone. The moves are the starts and goals of the carriers by
-- turns.
--     said_read       what an answer of reading says: the counts of an accepted text and its dwell, or a
--                    refusal's listed number with its line
--     TooShort       9: a lent table has fewer places than its least length, by the tables' lengths;
--                    `AnyShort` by the tables
--     counts_of       the counts of a job: nodes, lanes, closed nodes and carriers; and its dwell (rules 7.13,
--                    7.17 and 7.18)
--     numbers_read    the job that the counts of an answer cut out of the tables, with the dwell answered: the
--                    numbers that a caller hands on to planning or to writing
--     AcceptedAs     no table is too short, the text is the written form of a job without faults, these are
--                    its counts and its dwell, and the tables are filled with its numbers (rules 7.13 and
--                    9.5)
--     Reason         why a reading is refused: 9 at line 0 where a lent table is too short, before anything
--                    is read; otherwise with the number and at the line with which the form refuses the text
--                    (rules 8.21 and 8.29). `Short` says of the tables that are lent that one is too short
--     RefusedWith    a reason, and what is left in the tables: 9 leaves them as they came, any other number
--                    zeroes their least lengths (rules 9.4 and 9.6)
--     ReadInto       the promise of reading, by what is said; the tables are as lent and, marked ', as left
use Rattle.std.specs.Prelude.{◌≡◌, ◌⊎◌, List, ℕ, ◌*◌, ◌<◌, length, take, Result}
use Rattle.hall.specs.declared.Refusal.{Refusal}
use Rattle.hall.specs.declared.Fault.TheVariants.{ShortTable}
use Rattle.hall.specs.declared.Job.{Job}
use Rattle.hall.specs.Limits.{node_limit, carrier_limit, lane_numbers, move_numbers}
use Rattle.hall.specs.Floor.{lanes_in, network_of}
use Rattle.hall.specs.Job.{Numbers, job_of, carriers}
use Rattle.hall.specs.Numbers.{number_of}
use Rattle.hall.specs.Said.{Said, accepted, refused, said}
use Rattle.hall.specs.Left.{filled, left}
use Rattle.form.specs.Texts.{Refused}
use Rattle.form.specs.JobText.{job_text}
use Rattle.form.specs.Jobs.{WrittenJob}

abbrev pub said_read : Result Job Refusal → Said Job
said_read = said (λ counts. counts)

abbrev pub TooShort : (lanes closed moves order : ℕ) → Type 0
TooShort lanes closed moves order =
    (lanes < lane_numbers) ⊎ ((closed < node_limit) ⊎ ((moves < move_numbers) ⊎ (order < carrier_limit)))

abbrev pub counts_of : Numbers → Job
counts_of j = record {
  nodes = j.network.nodes;
  lanes = lanes_in j.network.lanes;
  closed = length j.network.closed;
  carriers = carriers j;
  dwell = j.dwell;
}

abbrev pub numbers_read : (counts : Job) (lanes' closed' moves' order' : List ℕ) → Numbers
numbers_read counts lanes' closed' moves' order' =
    job_of (network_of counts.nodes (take (2 * counts.lanes) lanes') (take counts.closed closed'))
    (take (2 * counts.carriers) moves')
    (take counts.carriers order')
    counts.dwell

abbrev pub AnyShort : (lanes closed moves order : List ℕ) → Type 0
AnyShort lanes closed moves order = TooShort (length lanes) (length closed) (length moves) (length order)

pub data Reason (Short : Type 0) (text : List ℕ) (number line : ℕ) : Type 0 where
  short : Short → number ≡ number_of ShortTable → line ≡ 0 → Reason Short text number line
  faulty : ¬ Short → Refused job_text text number line → Reason Short text number line

module _ (text lanes closed moves order : List ℕ) where
  pub record AcceptedAs (lanes' closed' moves' order' : List ℕ) (counts : Job) : Type 0 where
    pub long : ¬ AnyShort lanes closed moves order
    pub job : Numbers
    pub writes : WrittenJob text job
    pub is_counts : counts ≡ counts_of job
    pub lanes_left_lem : lanes' ≡ filled job.network.lanes lane_numbers lanes
    pub closed_left : closed' ≡ filled job.network.closed node_limit closed
    pub moves_left : moves' ≡ filled job.moves move_numbers moves
    pub order_left : order' ≡ filled job.order carrier_limit order

  pub record RefusedWith (lanes' closed' moves' order' : List ℕ) (number line : ℕ) : Type 0 where
    pub reason : Reason (AnyShort lanes closed moves order) text number line
    pub lanes_left_lem : lanes' ≡ left number lane_numbers lanes
    pub closed_left : closed' ≡ left number node_limit closed
    pub moves_left : moves' ≡ left number move_numbers moves
    pub order_left : order' ≡ left number carrier_limit order

  abbrev pub ReadInto : (lanes' closed' moves' order' : List ℕ) → Said Job → Type 0
  ReadInto lanes' closed' moves' order' (accepted counts) = AcceptedAs lanes' closed' moves' order' counts
  ReadInto lanes' closed' moves' order' (refused number line) =
      RefusedWith lanes' closed' moves' order' number line
