-- The distance table of a job, and the carriers that have no walk by it (rules 2.6, 8.8, 9.2 and 9.8).
--     EachBelow         each number of the moves is below n
--     TableServed       what is served: at most 1,024 nodes and 64 carriers, every start and goal a node,
--                       open or closed, and room for the whole table. The true distance to a closed node is
--                       the mark, since no walk stands on it
--     Used              place x of the table belongs to two carriers of a job of k
--     TableLeft         the table of a job of k carriers: unused places zero, and what is past the least
--                       length as it came
--     TableFilled       what is served leaves the true distances in the table
--     TableUntouched    what is not served leaves the table as it came
--     Filling           the promise: the true distances stand in the table, or the input is none of those
--                       served and the table is as it came
--     FirstLost         c is the lowest carrier number without a walk to its goal: its own distance is the
--                       mark
--     NoneLost          no carrier is without one; or the table is short or there are more than 64 carriers,
--                       which is not served, and nothing was looked at
--     said_reach         what a lost carrier says: 8 at its number; and nothing is refused where there is none
--     Reaching          the promise of the question for the lowest carrier without a walk
use Rattle.std.specs.Prelude.{◌≡◌, ◌⊎◌, ◌≢◌, Bool, true, false, List, ℕ, ◌*◌, ◌/◌, ◌%◌, ◌≤◌, ◌<◌, length, get_or, Option, Some, None}
use Rattle.hall.specs.declared.Carrier.{Carrier}
use Rattle.hall.specs.declared.Fault.TheVariants.{Unreachable}
use Rattle.hall.specs.Numbers.{number_of}
use Rattle.hall.specs.Said.{Said, accepted, refused}
use Rattle.hall.specs.Limits.{node_limit, carrier_limit, block_length, table_length, no_walk_mark}
use Rattle.hall.specs.Floor.{Network, floor}
use Rattle.hall.specs.Job.{move_count, start_in, goal_in}
use Rattle.hall.specs.Ticks.{own}
use Rattle.hall.specs.Plan.{TablesOf, tables_in}

abbrev pub EachBelow : List ℕ → ℕ → Type 0
EachBelow moves n = (x : ℕ) → x < 2 * move_count moves → get_or moves x 0 < n

pub record TableServed (N : Network) (moves : List ℕ) (room : ℕ) : Type 0 where
  pub few_nodes : N.nodes ≤ node_limit
  pub few_carriers : move_count moves ≤ carrier_limit
  pub whole_table : table_length ≤ room
  pub numbered : EachBelow moves N.nodes

pub record Used (k x : ℕ) : Type 0 where
  pub first : x % block_length / carrier_limit < k
  pub second : x % carrier_limit < k

pub record TableLeft (k : ℕ) (table table' : List ℕ) : Type 0 where
  pub size : length table' ≡ length table
  pub unused : (x : ℕ) → x < table_length → ¬ Used k x → get_or table' x 0 ≡ 0
  pub beyond : (x : ℕ) → table_length ≤ x → get_or table' x 0 ≡ get_or table x 0

pub record TableFilled (N : Network) (moves table table' : List ℕ) : Type 0 where
  pub served : TableServed N moves (length table)
  pub true_distances : TablesOf (floor N) (move_count moves) (start_in moves) (goal_in moves) (tables_in table')
  pub table_left : TableLeft (move_count moves) table table'

pub record TableUntouched (N : Network) (moves table table' : List ℕ) : Type 0 where
  pub unserved : ¬ TableServed N moves (length table)
  pub kept : table' ≡ table

abbrev pub Filling : (N : Network) (moves table table' : List ℕ) → Bool → Type 0
Filling N moves table table' true = TableFilled N moves table table'
Filling N moves table table' false = TableUntouched N moves table table'

-- ---- carriers without a walk

pub record FirstLost (table : List ℕ) (carriers c : ℕ) : Type 0 where
  pub whole_table : table_length ≤ length table
  pub few_carriers : carriers ≤ carrier_limit
  pub is_carrier : c < carriers
  pub marked : own (tables_in table) c ≡ no_walk_mark
  pub none_lower : (i : ℕ) → i < c → own (tables_in table) i ≢ no_walk_mark

pub data NoneLost (table : List ℕ) (carriers : ℕ) : Type 0 where
  looked : table_length ≤ length table
      → carriers ≤ carrier_limit
      → ((i : ℕ) → i < carriers → own (tables_in table) i ≢ no_walk_mark)
      → NoneLost table carriers
  unserved : (length table < table_length) ⊎ (carrier_limit < carriers) → NoneLost table carriers

abbrev pub said_reach : Option Carrier → Said Unit
said_reach None = accepted tt
said_reach (Some c) = refused (number_of Unreachable) c.0

abbrev pub Reaching : (table : List ℕ) (carriers : ℕ) → Said Unit → Type 0
Reaching table carriers (accepted u) = NoneLost table carriers
Reaching table carriers (refused n p) = (n ≡ number_of Unreachable) × FirstLost table carriers p
