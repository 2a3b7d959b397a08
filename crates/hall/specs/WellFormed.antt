-- What the rules say of a job in positive words (rules 1.1, 1.2, 1.9, 2.1 to 2.4, 2.7, 2.8, 3.1, 3.7 and
-- 3.8), in one record. Of two moves together nothing is said: they may share a start, a goal or both (rule
-- 3.2). A job from numbers is like this exactly if none of the checks of `checks_question` holds of it:
-- `well_formed_iff` (proofs/WellFormed.antt). So the checks refuse nothing that the rules allow, and let
-- nothing else pass.
--     WellFormedNetwork N   the node count, the lanes and the closed nodes are as the rules say. That no lane
--                           stands twice follows: `none_twice`
--     WellFormed j          so are the network, the moves, the order and the dwell of the job
use Rattle.std.specs.Prelude.{◌≡◌, ◌≢◌, ℕ, ◌%◌, ◌≤◌, ◌<◌, length, get_or}
use Rattle.hall.specs.Limits.{node_limit, lane_limit, carrier_limit, dwell_limit}
use Rattle.hall.specs.Floor.{Network, lanes_in, lower, higher, floor}
use Rattle.hall.specs.Job.{Numbers, carriers, start, goal, at_place, EndsOn}
use Rattle.hall.specs.Refusals.{Exceeds}

pub record WellFormedNetwork (N : Network) : Type 0 where
  -- 1 to 1,024 nodes; two numbers a lane, and at most 4,096 lanes
  pub node_count : (1 ≤ N.nodes) × (N.nodes ≤ node_limit)
  pub lane_count : (length N.lanes % 2 ≡ 0) × (lanes_in N.lanes ≤ lane_limit)
  -- the ends of a lane are nodes that differ, the lower one first
  pub lane : (k : ℕ) → k < lanes_in N.lanes →
      (lower N.lanes k < higher N.lanes k) × (higher N.lanes k < N.nodes)
  -- of any two lanes the later exceeds the earlier
  pub rising : (k l : ℕ) → k < l → l < lanes_in N.lanes → Exceeds N.lanes l k
  -- at most 1,024 closed nodes, each of them a node, in rising order
  pub closed_count_lem : length N.closed ≤ node_limit
  pub closed_node_lem : (k : ℕ) → k < length N.closed → get_or N.closed k 0 < N.nodes
  pub closed_rising : (k l : ℕ) → k < l → l < length N.closed → get_or N.closed k 0 < get_or N.closed l 0

pub record WellFormed (j : Numbers) : Type 0 where
  pub network_is : WellFormedNetwork j.network
  -- a carrier waits at most 255 ticks
  pub dwell_few : j.dwell ≤ dwell_limit
  -- at most 64 carriers
  pub carrier_count : carriers j ≤ carrier_limit
  -- each move's start and goal are open nodes, and differ
  pub ends_on : EndsOn (floor j.network) j.moves
  pub ends_differ : (i : ℕ) → i < carriers j → start j i ≢ goal j i
  -- the order has as many places as there are carriers, and lists each of them, each once
  pub order_count_lem : length j.order ≡ carriers j
  pub entry : (p : ℕ) → p < length j.order → at_place j p < carriers j
  pub placed : (c : ℕ) → c < carriers j → (p : ℕ) × ((p < length j.order) × (at_place j p ≡ c))
  pub once : (p q : ℕ) → p < length j.order → q < length j.order → p ≢ q → at_place j p ≢ at_place j q
