-- What is owed to a caller of planning, said of the answers and of the tables themselves (rules 9.7 to 9.9,
-- 12.2 and 12.3). Demand 3 is `Demand3` of the crate hall.
--     Demand2             the distances in the table and in the records are the true ones, over open nodes;
--                         each carrier in the order's turn has the least tick, counted from 0, that those
--                         before it permit with the job's dwell; the cost is the sum of the goal ticks, each
--                         a start tick and a distance
--     NoEarlierFault      the table is long enough and nothing of the listed checks holds, so that only 8 is
--                         left to be given
use Rattle.std.specs.Prelude.{◌≡◌, List, ℕ, ◌+◌, ◌≤◌, ◌<◌, length}
use Rattle.hall.specs.Limits.{table_length}
use Rattle.hall.specs.Floor.{Dist, floor}
use Rattle.hall.specs.Job.{Numbers, carriers, start, goal, at_place}
use Rattle.hall.specs.Stages.{None}
use Rattle.hall.specs.Questions.{checks_question}
use Rattle.hall.specs.Ticks.{SmallestFrom, PermittedAt, total}
use Rattle.hall.specs.Plan.{TablesOf, tables_in}
use Rattle.records.specs.declared.Record.{Record}
use Rattle.recorded.specs.Planning.{tick_of, distance_of}

pub record Demand2 (j : Numbers) (records' : List Record) (table' : List ℕ) (cost : ℕ) : Type 0 where
  pub table_true : TablesOf (floor j.network) (carriers j) (start j) (goal j) (tables_in table')
  pub distance_true : (i : ℕ) → i < carriers j →
      Dist (floor j.network) (start j i) (goal j i) (distance_of records' i)
  pub smallest_tick : (q : ℕ) → q < length j.order →
      SmallestFrom 0
      (PermittedAt j.dwell (tables_in table') j.order (tick_of records') q)
      (tick_of records' (at_place j q))
  pub cost_is_sum : cost ≡ total (carriers j) (λ i. tick_of records' i + distance_of records' i)

pub record NoEarlierFault (j : Numbers) (table : List ℕ) : Type 0 where
  pub long_table : table_length ≤ length table
  pub none_checked : None (checks_question j)
