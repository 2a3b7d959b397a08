-- What a job without the faults of `checks_question` (2 to 5, 7, 12 and 13) is known to be: each fact is the
-- denial of one check, read off the list of stages. The laws of plans use of it that there are at most 64
-- carriers and that the order lists each carrier number once (`Listing`); that a start is unlike its goal (5)
-- they use nowhere, and of two moves together there is nothing to use. That every carrier has a place is the
-- counting law `all_listed`. Assumes nothing.
--     DeniedMoves j    none of these checks but 7 holds of the job, check by check
--     Denied j         nor does 7
--     MovesSound j     what the first of these tells: the job is within its limits, its order has a place for
--                      each carrier, and its ends are open nodes
--     Listing j        the order lists the carrier numbers by place, each once, and there are at most 64
use mathlib.Core.Path.{◌≡◌, sym}
use mathlib.Core.Logic.{◌⊎◌, inl, inr, ◌≢◌}
use mathlib.Core.List.{[], ◌∷◌}
use Prim.Native.Nat.{ℕ, suc, ◌/◌, ◌%◌, ◌≤◌, ◌<◌}
use native.Mathlib.Decide.{ℕ_discrete, dec_lt}
use native.Mathlib.Omega.{arith}
use lib.ListN.{length}
use Rattle.hall.specs.Limits.{node_limit, lane_limit, carrier_limit, dwell_limit}
use Rattle.hall.specs.Floor.{NoWalk, Network, lanes_in, floor}
use Rattle.hall.specs.Job.{Numbers, carriers, start, goal, at_place, EndsOn}
use Rattle.hall.specs.Stages.{FirstOf, here, later, FirstAt, FirstStage, First, None}
use Rattle.hall.specs.Refusals.{LaneFault, ClosedFault, NoNode-at, ClosedEnd-at}
use Rattle.hall.specs.Refusals.{BadOrder-at, no_carrier, stands_earlier}
use Rattle.hall.specs.Questions.{lane_checks, closed_checks, move_checks, order_checks, each_order_place}
use Rattle.hall.specs.Questions.{walk_checks, each_walk, network_question, moves_question, checks_question}
use Rattle.hall.specs.Questions.{job_question}
use Rattle.hall.proofs.Stages.{none_excludes}
use Rattle.hall.proofs.Compose.{none_split, first_split}
use Rattle.hall.proofs.Places.{none_asked, none_each}
use Rattle.hall.proofs.Pigeon.{Listed, all_listed}

-- what is not above is below or equal
pub not_above : (m n : ℕ) → ¬ (m < n) → n ≤ m
not_above m n h = omega arith

-- ---- a network without the faults 2, 3 and 12

pub record DeniedNetwork (N : Network) : Type 0 where
  pub nodes : ¬ ((N.nodes < 1) ⊎ (node_limit < N.nodes))
  pub lanes : ¬ ((lane_limit < length N.lanes / 2) ⊎ (length N.lanes % 2 ≡ 1))
  pub closed_count_lem : ¬ (node_limit < length N.closed)
  pub lane : (k : ℕ) → k < lanes_in N.lanes → ¬ LaneFault N.nodes N.lanes k
  pub closed_node_lem : (k : ℕ) → k < length N.closed → ¬ ClosedFault N.nodes N.closed k

pub network_denied : (N : Network) → None (network_question N) → DeniedNetwork N
network_denied N none =
    let nodes = none_asked none in
    let lanes = none_asked nodes.1 in
    let closed = none_asked lanes.1 in
    let lane = none_each (lane_checks N.nodes N.lanes) closed.1 in
    let entry = none_each (closed_checks N.nodes N.closed) lane.1 in
    record {
      nodes = nodes.0;
      lanes = lanes.0;
      closed_count_lem = closed.0;
      lane = λ k l. (lane.0.clear k l).0;
      closed_node_lem = λ k l. (entry.0.clear k l).0;
    }

-- ---- a job without the faults of its listed checks

pub record DeniedMoves (j : Numbers) : Type 0 where
  pub network : DeniedNetwork j.network
  pub carriers_count_lem : ¬ (carrier_limit < carriers j)
  pub order_count_lem : ¬ (length j.order ≢ carriers j)
  pub dwell_count_lem : ¬ (dwell_limit < j.dwell)
  pub no_node : (i : ℕ) → i < carriers j → ¬ NoNode-at j.network.nodes (start j i) (goal j i)
  pub same_ends : (i : ℕ) → i < carriers j → ¬ (start j i ≡ goal j i)
  pub closed_end : (i : ℕ) → i < carriers j → ¬ ClosedEnd-at j.network.closed (start j i) (goal j i)

pub record Denied (j : Numbers) : Type 0 where
  pub moves : DeniedMoves j
  pub bad_order : (p : ℕ) → p < length j.order → ¬ BadOrder-at (carriers j) j.order p

pub denied_moves : (j : Numbers) → None (moves_question j) → DeniedMoves j
denied_moves j none =
    let nodes = none_asked none in
    let lanes = none_asked nodes.1 in
    let closed = none_asked lanes.1 in
    let few = none_asked closed.1 in
    let order = none_asked few.1 in
    let dwell = none_asked order.1 in
    let lane = none_each (lane_checks j.network.nodes j.network.lanes) dwell.1 in
    let shut = none_each (closed_checks j.network.nodes j.network.closed) lane.1 in
    let move = none_each (move_checks j.network.nodes j.network.closed j.moves) shut.1 in
    record {
      network = record {
        nodes = nodes.0;
        lanes = lanes.0;
        closed_count_lem = closed.0;
        lane = λ k l. (lane.0.clear k l).0;
        closed_node_lem = λ k l. (shut.0.clear k l).0;
      };
      carriers_count_lem = few.0;
      order_count_lem = order.0;
      dwell_count_lem = dwell.0;
      no_node = λ i l. (move.0.clear i l).0;
      same_ends = λ i l. (move.0.clear i l).1.0;
      closed_end = λ i l. (move.0.clear i l).1.1.0;
    }

-- the order's entries are looked at last
pub moves_of_none : (j : Numbers) → None (checks_question j) → None (moves_question j)
moves_of_none j none = (none_split (moves_question j) (each_order_place (carriers j) j.order ∷ []) none).0

pub denied_checks : (j : Numbers) → None (checks_question j) → Denied j
denied_checks j none =
    let entries = (none_split (moves_question j) (each_order_place (carriers j) j.order ∷ []) none).1 in
    record {
      moves = denied_moves j (moves_of_none j none);
      bad_order = λ p l. ((none_each (order_checks (carriers j) j.order) entries).0.clear p l).0;
    }

-- ---- what the checks up to the order's entries tell

pub record MovesSound (j : Numbers) : Type 0 where
  pub few_nodes : j.network.nodes ≤ node_limit
  pub few_carriers : carriers j ≤ carrier_limit
  pub order_size : length j.order ≡ carriers j
  pub dwell_few : j.dwell ≤ dwell_limit
  -- every start and every goal is an open node, and a goal is not its start
  pub ends_open : EndsOn (floor j.network) j.moves
  pub ends_differ : (i : ℕ) → i < carriers j → start j i ≢ goal j i

-- no order of another length
same_size : (m n : ℕ) → ¬ (m ≢ n) → m ≡ n
same_size m n h = cases (ℕ_discrete m n)
  where
    cases : Dec (m ≡ n) → m ≡ n
    cases (yes e) = e
    cases (no e) = absurd (h e)

pub moves_sound : (j : Numbers) → None (moves_question j) → MovesSound j
moves_sound j none = record {
  few_nodes = not_above node_limit j.network.nodes (λ h. facts.network.nodes (inr h));
  few_carriers = not_above carrier_limit (carriers j) facts.carriers_count_lem;
  order_size = same_size (length j.order) (carriers j) facts.order_count_lem;
  dwell_few = not_above dwell_limit j.dwell facts.dwell_count_lem;
  ends_open = record {
    starts = λ i l. record {
      numbered = not_above j.network.nodes (suc (start j i)) (λ x. facts.no_node i l (inl (omega arith)));
      not_closed = λ c. facts.closed_end i l (inl c);
    };
    goals = λ i l. record {
      numbered = not_above j.network.nodes (suc (goal j i)) (λ x. facts.no_node i l (inr (omega arith)));
      not_closed = λ c. facts.closed_end i l (inr c);
    };
  };
  ends_differ = facts.same_ends;
}
  where
    facts : DeniedMoves j
    facts = denied_moves j none

-- the listed checks are asked before 8
pub checks_of_none : (j : Numbers) → None (job_question j) → None (checks_question j)
checks_of_none j none = (none_split (checks_question j) (each_walk j.network j.moves ∷ []) none).0

-- and 8 tells that there are walks
pub walks_of_none : (j : Numbers) → None (job_question j) →
    (i : ℕ) → i < carriers j → ¬ NoWalk (floor j.network) (start j i) (goal j i)
walks_of_none j none i l =
    let walks = (none_split (checks_question j) (each_walk j.network j.moves ∷ []) none).1 in
    ((none_each (walk_checks j.network j.moves) walks).0.clear i l).0

-- where none of the listed checks holds, a first fault is 8, of a carrier without a walk
pub only_eight : (j : Numbers) → None (checks_question j) → {n p : ℕ} → First (job_question j) n p →
    (n ≡ 8) × ((p < carriers j) × NoWalk (floor j.network) (start j p) (goal j p))
only_eight j sound {n} {p} h = cases (first_split (checks_question j) (each_walk j.network j.moves ∷ []) h)
  where
    in_stage : FirstAt (each_walk j.network j.moves) n p →
        (n ≡ 8) × ((p < carriers j) × NoWalk (floor j.network) (start j p) (goal j p))
    in_stage (here x) = x
    in_stage (later k x) = absurd x

    in_walks : FirstStage (each_walk j.network j.moves ∷ []) n p →
        (n ≡ 8) × ((p < carriers j) × NoWalk (floor j.network) (start j p) (goal j p))
    in_walks (here x) = in_stage x.holds
    in_walks (later k x) = absurd x

    cases : FirstOf (First (checks_question j) n p) (None (checks_question j)) (First (each_walk j.network j.moves ∷ []) n p) →
        (n ≡ 8) × ((p < carriers j) × NoWalk (floor j.network) (start j p) (goal j p))
    cases (here x) = absurd (none_excludes x sound)
    cases (later k x) = in_walks x.in_turn

-- ---- the order's list

pub record Listing (j : Numbers) : Type 0 where
  pub few : carriers j ≤ carrier_limit
  pub size : length j.order ≡ carriers j
  -- an order entry is a carrier number
  pub below : (p : ℕ) → p < length j.order → at_place j p < carriers j
  -- two places have different entries
  pub once : (p q : ℕ) → p < length j.order → q < length j.order → at_place j p ≡ at_place j q → p ≡ q

-- every carrier has a place
pub place_listed : (j : Numbers) → Listing j → (c : ℕ) → c < carriers j → Listed (at_place j) (length j.order) c
place_listed j l c h =
    all_listed (length j.order) (at_place j) (λ p m. rw l.size (l.below p m)) l.once c (rw l.size h)

module _ (j : Numbers) (sound : None (checks_question j)) where
  facts : Denied j
  facts = denied_checks j sound

  within : MovesSound j
  within = moves_sound j (moves_of_none j sound)

  pub nodes_limit : j.network.nodes ≤ node_limit
  nodes_limit = within.few_nodes

  pub carriers_limit : carriers j ≤ carrier_limit
  carriers_limit = within.few_carriers

  pub dwell_within : j.dwell ≤ dwell_limit
  dwell_within = within.dwell_few

  pub order_length : length j.order ≡ carriers j
  order_length = within.order_size

  pub ends_on : EndsOn (floor j.network) j.moves
  ends_on = within.ends_open

  -- an order entry is a carrier number
  pub entry_below : (p : ℕ) → p < length j.order → at_place j p < carriers j
  entry_below p l =
      not_above (carriers j) (suc (at_place j p)) (λ h. facts.bad_order p l (no_carrier (omega arith)))

  -- two places have different entries
  pub entry_once : (p q : ℕ) → p < length j.order → q < length j.order → at_place j p ≡ at_place j q → p ≡ q
  entry_once p q hp hq e = cases (dec_lt p q) (dec_lt q p)
    where
      cases : Dec (p < q) → Dec (q < p) → p ≡ q
      cases (yes l) d = absurd (facts.bad_order q hq (stands_earlier l e))
      cases (no l) (yes k) = absurd (facts.bad_order p hp (stands_earlier k (sym e)))
      cases (no l) (no k) = omega arith

  pub listing : Listing j
  listing = record { few = carriers_limit; size = order_length; below = entry_below; once = entry_once }

  pub place_of : (c : ℕ) → c < carriers j → Listed (at_place j) (length j.order) c
  place_of = place_listed j listing
