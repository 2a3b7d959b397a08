-- What the questions about one carrier of a job promise, with the records lent as one list (rules 6.8, 8.26,
-- 8.27, 9.11 and 9.12). What is answered of a job's numbers is that of the crates path and asks. A network or
-- a list with ' is as the question leaves it.
--     RecordsKept      the network, the records and the order, which are only read, are as they came
--     HouseGiven       what a question for the house path of carrier c of the job j gives; ListGiven what one
--                      about a list gives
--     HouseOfRecords   the house path of the carrier's move in the lent list, or the first fault and what
--                      that leaves there
--     ListOfRecords    the list is a shortest path of the carrier's move, or the first fault
use Rattle.std.specs.Prelude.{◌≡◌, List, ℕ, ◌<◌, length, Result}
use Rattle.hall.specs.declared.Refusal.{Refusal}
use Rattle.hall.specs.Limits.{node_limit}
use Rattle.hall.specs.Floor.{Network}
use Rattle.hall.specs.Job.{Numbers, start, goal}
use Rattle.hall.specs.Said.{Judged}
use Rattle.hall.specs.Questions.{house_of_job, list_of_job}
use Rattle.records.specs.declared.Record.{Record}
use Rattle.path.specs.Paths.{Unfit, said_housed, HouseLeft}
use Rattle.recorded.specs.Job.{record_job}

pub record RecordsKept (N N' : Network) (records records' : List Record) (order order' : List ℕ)
    : Type 0 where
  pub network_kept : N' ≡ N
  pub records_kept : records' ≡ records
  pub order_kept : order' ≡ order

abbrev pub HouseGiven : (j : Numbers) (c : ℕ) (path path' : List ℕ) → Result ℕ Refusal → Type 0
HouseGiven j c path path' r =
    HouseLeft (house_of_job (length path < node_limit) j c)
    j.network (start j c) (goal j c)
    path path'
    (said_housed r)

abbrev pub ListGiven : (j : Numbers) (c : ℕ) (list : List ℕ) → Result Unit Refusal → Type 0
ListGiven j c list r = Judged (list_of_job j c (Unfit j.network (start j c) (goal j c) list)) r

pub record HouseOfRecords (N N' : Network) (records records' : List Record) (order order' : List ℕ)
    (dwell c : ℕ) (path path' : List ℕ) (r : Result ℕ Refusal) : Type 0 where
  pub given : HouseGiven (record_job N records order dwell) c path path' r
  pub kept : RecordsKept N N' records records' order order'

pub record ListOfRecords (N N' : Network) (records records' : List Record) (order order' : List ℕ)
    (dwell c : ℕ) (list list' : List ℕ) (r : Result Unit Refusal) : Type 0 where
  pub given : ListGiven (record_job N records order dwell) c list r
  pub kept : RecordsKept N N' records records' order order'
  pub list_kept : list' ≡ list
