-- What the questions promise that are asked with the first of 80 records, for every input. A record is four
-- numbers (rule 3.10). The first of the records are lent to a question of crate jobs. One that may change
-- them has all 80 written to numbers afterwards, in four columns of 80: starts, goals, distances, ticks. So
-- the numbers show what it left in the lent records (section 9), and that those behind are as they came. One
-- that only reads them leaves the list that was lent. A network or a list with ' is as the question leaves
-- it.
--     front_of         as many of them as are lent: `count`, or all if there are fewer
--     back_of          those behind
--     Lending         a question that leaves of lent records what `Asked` says is asked with the front, and
--                     what it leaves and what stood behind is written to the numbers
--     LentReading     reading a job text is asked so; LentPlanning planning
--     LentHouse       the house path of a carrier is asked with the front; LentList whether a list is a
--                     shortest path of a carrier; LentWriting writing a job as its text
use Rattle.std.specs.Prelude.{◌≡◌, List, ◌++◌, ℕ, min, take, drop, Result}
use Rattle.hall.specs.declared.Job.{Job}
use Rattle.hall.specs.declared.Refusal.{Refusal}
use Rattle.hall.specs.Floor.{Network}
use Rattle.records.specs.declared.Record.{Record}
use Rattle.try_columns.specs.Columns.{lendable, told_to}
use Rattle.recorded.specs.Reading.{ReadLeft}
use Rattle.recorded.specs.Planning.{RecordPlanning}
use Rattle.recorded.specs.Asking.{HouseOfRecords, ListOfRecords}
use Rattle.recorded.specs.Writing.{RecordWriting}

-- ---- the records that are lent

abbrev pub front_of : (count : ℕ) → List Record → List Record
front_of count records = take (min count lendable) records

abbrev pub back_of : (count : ℕ) → List Record → List Record
back_of count records = drop (min count lendable) records

-- ---- the promises

pub record Lending (Asked : (records left : List Record) → Type 0) (count : ℕ) (records : List Record)
    (fields fields' : List ℕ) : Type 0 where
  pub left : List Record
  pub asked : Asked (front_of count records) left
  pub told : fields' ≡ told_to (left ++ back_of count records) fields

abbrev pub LentReading : (text text' lanes lanes' closed closed' : List ℕ) (count : ℕ)
    (order order' : List ℕ) (records : List Record) (fields fields' : List ℕ) → Result Job Refusal → Type 0
LentReading text text' lanes lanes' closed closed' count order order' records fields fields' r =
    Lending (λ front left. ReadLeft text text' lanes lanes' closed closed' front left order order' r)
    count records fields fields'

abbrev pub LentPlanning : (N N' : Network) (count : ℕ) (order order' : List ℕ) (dwell : ℕ)
    (table table' : List ℕ) (records : List Record) (fields fields' : List ℕ) → Result ℕ Refusal → Type 0
LentPlanning N N' count order order' dwell table table' records fields fields' r =
    Lending (λ front left. RecordPlanning N N' front left order order' dwell table table' r)
    count records fields fields'

abbrev pub LentHouse : (N N' : Network) (count : ℕ) (order order' : List ℕ) (dwell c : ℕ)
    (path path' : List ℕ) (records : List Record) → Result ℕ Refusal → Type 0
LentHouse N N' count order order' dwell c path path' records r =
    HouseOfRecords N N' (front_of count records) (front_of count records) order order' dwell c path path' r

abbrev pub LentList : (N N' : Network) (count : ℕ) (order order' : List ℕ) (dwell c : ℕ)
    (list list' : List ℕ) (records : List Record) → Result Unit Refusal → Type 0
LentList N N' count order order' dwell c list list' records r =
    ListOfRecords N N' (front_of count records) (front_of count records) order order' dwell c list list' r

abbrev pub LentWriting : (N N' : Network) (count : ℕ) (order order' : List ℕ) (dwell : ℕ)
    (out out' : List ℕ) (records : List Record) → Result ℕ Refusal → Type 0
LentWriting N N' count order order' dwell out out' records r =
    RecordWriting N N' (front_of count records) (front_of count records) order order' dwell out out' r
