-- What reading a whole text into long enough tables answers, before a refusal zeroes them (rules 7.6 to
-- 7.13).
--     Long        every table has its least length at least
--     TextRead    the text writes a job, which is answered and fills the tables; or it is refused. From the
--                 least lengths on nothing has changed. `TextAnswer` is its part by what is answered
use Rattle.std.specs.Prelude.{◌≡◌, List, ℕ, ◌≤◌, length, drop, Result, Ok, Err}
use Rattle.hall.specs.declared.Job.{Job}
use Rattle.hall.specs.declared.Refusal.{Refusal}
use Rattle.hall.specs.Limits.{node_limit, carrier_limit, lane_numbers, move_numbers}
use Rattle.reader.specs.Entries.{RefusedBy}
use Rattle.reader.specs.Reading.{AcceptedAs}

pub record Long (lanes closed moves order : List ℕ) : Type 0 where
  pub lanes_long : lane_numbers ≤ length lanes
  pub closed_long : node_limit ≤ length closed
  pub moves_long : move_numbers ≤ length moves
  pub order_long : carrier_limit ≤ length order

module _ (text lanes closed moves order lanes' closed' moves' order' : List ℕ) where
  abbrev pub TextAnswer : Result Job Refusal → Type 0
  TextAnswer (Ok counts) = AcceptedAs text lanes closed moves order lanes' closed' moves' order' counts
  TextAnswer (Err r) = RefusedBy text r

  pub record TextRead (r : Result Job Refusal) : Type 0 where
    pub answer : TextAnswer r
    pub beyond_lanes : drop lane_numbers lanes' ≡ drop lane_numbers lanes
    pub beyond_closed : drop node_limit closed' ≡ drop node_limit closed
    pub beyond_moves : drop move_numbers moves' ≡ drop move_numbers moves
    pub beyond_order : drop carrier_limit order' ≡ drop carrier_limit order
