-- What a plan of a job is (rules 5.1 to 5.5), and where the distances stand in a lent table (rule 9.8).
--     DistancesOf    the six numbers of a pair are the true distances of two moves. The carriers' own are
--                    distances; each of the other four may be the mark for "no walk"
--     TablesOf       the tables hold the true distances between starts and goals by carrier numbers, the mark
--                    included
--     Plan           the tables are those of the job, each carrier has a walk from its start to its goal, the
--                    ticks are the start ticks by the order and the dwell, and the cost is the sum of the
--                    goal ticks
--     tables_in       the three tables in one list of numbers, a block of 4,096 for each in the order of
--                    `Tables`; in its block the distance of carriers i and j stands at 64 × i + j
use Rattle.std.specs.Prelude.{◌≡◌, ◌≢◌, List, ℕ, ◌+◌, ◌*◌, ◌<◌, get_or}
use Rattle.hall.specs.Limits.{carrier_limit, block_length, goal_block, no_walk_mark}
use Rattle.hall.specs.Floor.{Floor, Dist, DistanceIs, floor}
use Rattle.hall.specs.Job.{Numbers, carriers, start, goal}
use Rattle.hall.specs.Rule.{Pair}
use Rattle.hall.specs.Ticks.{Tables, own, StartTicks, cost_of}

pub record DistancesOf (F : Floor) (si gi sj gj : ℕ) (p : Pair) : Type 0 where
  pub own_i : Dist F si gi p.ii
  pub own_j : Dist F sj gj p.jj
  pub starts : DistanceIs F si sj p.ss
  pub goals : DistanceIs F gi gj p.gg
  pub i_to_j : DistanceIs F si gj p.ij
  pub j_to_i : DistanceIs F sj gi p.ji

pub record TablesOf (F : Floor) (k : ℕ) (start goal : ℕ → ℕ) (t : Tables) : Type 0 where
  pub starts : (i j : ℕ) → i < k → j < k → DistanceIs F (start i) (start j) (t.ss i j)
  pub goals : (i j : ℕ) → i < k → j < k → DistanceIs F (goal i) (goal j) (t.gg i j)
  pub start_goal : (i j : ℕ) → i < k → j < k → DistanceIs F (start i) (goal j) (t.sg i j)

pub record Plan (j : Numbers) (t : Tables) (tick : ℕ → ℕ) (cost : ℕ) : Type 0 where
  pub true_distances : TablesOf (floor j.network) (carriers j) (start j) (goal j) t
  pub reached : (i : ℕ) → i < carriers j → own t i ≢ no_walk_mark
  pub ticks : StartTicks j.dwell t j.order tick
  pub cost_is : cost ≡ cost_of t tick (carriers j)

abbrev pub tables_in : List ℕ → Tables
tables_in l = record {
  ss = λ i j. get_or l (carrier_limit * i + j) 0;
  sg = λ i j. get_or l (block_length + (carrier_limit * i + j)) 0;
  gg = λ i j. get_or l (goal_block + (carrier_limit * i + j)) 0;
}
