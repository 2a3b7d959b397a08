-- What the functions on numbers promise to the questions of crate `jobs`, which no promise of theirs cites.
--     Beside        what reading beside so many records answers: 9 if these are too few, and then nothing is
--                   touched; otherwise what reading into numbers does
--     Placing       how many records reading writes, by the tables' lengths: none if one is too short
--     crowd         how many records are looked at: one more than a job can have, since any number above 64
--                   is refused like 65
--     loaded        the numbers of the moves of n records, of so many at most, in front of a list
--     loaded_job    the job whose moves are these, in front of the list that is lent as its moves
--     stored_count  how many records planning writes: none after a refusal
use Rattle.std.specs.Prelude.{◌≡◌, List, ℕ, ◌*◌, ◌≤◌, ◌<◌, min, take, Result, Ok, Err}
use Rattle.hall.specs.declared.Job.{Job}
use Rattle.hall.specs.declared.Fault.TheVariants.{ShortTable}
use Rattle.hall.specs.declared.Refusal.{Refusal}
use Rattle.hall.specs.Limits.{carrier_limit}
use Rattle.hall.specs.Job.{Numbers, job_of}
use Rattle.hall.specs.Numbers.{number_of}
use Rattle.hall.specs.Said.{Said, refused}
use Rattle.reader.specs.Reading.{ReadInto}
use Rattle.recorded.specs.Reading.{RecordsShort}

pub data Beside (text lanes closed : List ℕ) (records : ℕ)
    (moves order lanes' closed' moves' order' : List ℕ) : Said Job → Type 0 where
  few : (s : Said Job) → records < carrier_limit → s ≡ refused (number_of ShortTable) 0
      → lanes' ≡ lanes → closed' ≡ closed → moves' ≡ moves → order' ≡ order
      → Beside text lanes closed records moves order lanes' closed' moves' order' s
  enough : (s : Said Job) → carrier_limit ≤ records
      → ReadInto text lanes closed moves order lanes' closed' moves' order' s
      → Beside text lanes closed records moves order lanes' closed' moves' order' s

pub record Placing (lanes closed records order count : ℕ) : Type 0 where
  pub none : RecordsShort lanes closed records order → count ≡ 0
  pub all : ¬ RecordsShort lanes closed records order → count ≡ carrier_limit

abbrev pub crowd : ℕ
crowd = 65

abbrev pub loaded : ℕ → List ℕ → List ℕ
loaded n moves = take (2 * min n crowd) moves

abbrev pub loaded_job : ℕ → Numbers → Numbers
loaded_job n j = job_of j.network (loaded n j.moves) j.order j.dwell

abbrev pub stored_count : Result ℕ Refusal → ℕ → ℕ
stored_count (Ok cost) n = n
stored_count (Err r) n = 0
