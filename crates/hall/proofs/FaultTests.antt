-- Computed tests of the faults 3, 4, 5, 7, 12 and 13 of an entry, and of every stage of a job from numbers.
-- Whether a walk is missing is left open: it is decided (Complete.antt), or computed from labels
-- (JobTests.antt). Assumes nothing.
use mathlib.Core.Path.{◌≡◌}
use mathlib.Core.Logic.{◌⊎◌, inl, inr}
use mathlib.Core.List.{List, [], ◌∷◌}
use Prim.Native.Nat.{ℕ, ◌+◌, ◌/◌, ◌%◌, ◌≤◌, ◌<◌}
use native.Mathlib.Omega.{arith}
use lib.ListN.{length, get_or}
use Rattle.hall.specs.Limits.{node_limit, lane_limit, carrier_limit, dwell_limit}
use Rattle.hall.specs.Floor.{lanes_in, lower, higher}
use Rattle.hall.specs.Job.{Numbers, carriers, move_count, start_in, goal_in}
use Rattle.hall.specs.Refusals.{Exceeds, by_lower, by_higher, LaneFault, no_node, not_below, not_rising}
use Rattle.hall.specs.Refusals.{ClosedFault, no_such_node, not_higher}
use Rattle.hall.specs.Refusals.{BadOrder-at, no_carrier, stands_earlier}
use Rattle.hall.specs.Questions.{nodes_count, lanes_count, closed_count, carriers_count, order_count, dwell_count}
use Rattle.hall.specs.Questions.{lane_checks, each_lane, closed_checks, each_closed}
use Rattle.hall.specs.Questions.{move_checks, each_move, order_checks, each_order_place, each_walk}
use Rattle.hall.specs.Questions.{checks_question, job_question}
use Rattle.hall.proofs.Test.{Test, Some, le?, lt?, eq?, not?, ◌and?◌, ◌or?◌, map?, any?}
use Rattle.hall.proofs.FloorTests.{closed?}
use Rattle.hall.proofs.StageTests.{ChecksAt, Tested, TestedAll, once?, each?, both?}

-- ---- 3, the lanes

module _ (lanes : List ℕ) (k j : ℕ) where
  abbrev pub ExceedsCase : Type 0
  ExceedsCase = (lower lanes j < lower lanes k) ⊎ ((lower lanes j ≡ lower lanes k) × (higher lanes j < higher lanes k))

  pub exceeds : ExceedsCase → Exceeds lanes k j
  exceeds (inl h) = by_lower h
  exceeds (inr h) = by_higher h.0 h.1

  pub exceeds_case : Exceeds lanes k j → ExceedsCase
  exceeds_case (by_lower h) = inl h
  exceeds_case (by_higher e h) = inr (e, h)

  abbrev pub exceeds? : Test (Exceeds lanes k j)
  exceeds? =
      map? exceeds exceeds_case
      (lt? (lower lanes j) (lower lanes k)
      or? (eq? (lower lanes j) (lower lanes k) and? lt? (higher lanes j) (higher lanes k)))

abbrev pub LaneCase : (nodes : ℕ) (lanes : List ℕ) (k : ℕ) → Type 0
LaneCase nodes lanes k =
    ((nodes ≤ lower lanes k) ⊎ (nodes ≤ higher lanes k))
    ⊎ ((higher lanes k ≤ lower lanes k) ⊎ Some (λ j. (j + 1 ≡ k) × (¬ Exceeds lanes k j)) k)

module _ (nodes : ℕ) (lanes : List ℕ) (k : ℕ) where
  pub lane_fault : LaneCase nodes lanes k → LaneFault nodes lanes k
  lane_fault (inl h) = no_node h
  lane_fault (inr (inl h)) = not_below h
  lane_fault (inr (inr h)) = not_rising {j = h.k} h.is.0 h.is.1

  pub lane_case : LaneFault nodes lanes k → LaneCase nodes lanes k
  lane_case (no_node h) = inl h
  lane_case (not_below h) = inr (inl h)
  lane_case (not_rising {j = j} e h) = inr (inr (record { k = j; below = omega arith; is = (e, h) }))

  abbrev pub lane-fault? : Test (LaneFault nodes lanes k)
  lane-fault? =
      map? lane_fault lane_case
      ((le? nodes (lower lanes k) or? le? nodes (higher lanes k))
      or? le? (higher lanes k) (lower lanes k)
      or? any? (λ j. eq? (j + 1) k and? not? (exceeds? lanes k j)) k)

-- ---- 12, the closed nodes

abbrev pub ClosedCase : (nodes : ℕ) (closed : List ℕ) (k : ℕ) → Type 0
ClosedCase nodes closed k =
    (nodes ≤ get_or closed k 0) ⊎ Some (λ j. (j + 1 ≡ k) × (get_or closed k 0 ≤ get_or closed j 0)) k

module _ (nodes : ℕ) (closed : List ℕ) (k : ℕ) where
  pub closed_fault : ClosedCase nodes closed k → ClosedFault nodes closed k
  closed_fault (inl h) = no_such_node h
  closed_fault (inr h) = not_higher h.k h.is.0 h.is.1

  pub closed_case : ClosedFault nodes closed k → ClosedCase nodes closed k
  closed_case (no_such_node h) = inl h
  closed_case (not_higher j e h) = inr (record { k = j; below = omega arith; is = (e, h) })

  abbrev pub closed-fault? : Test (ClosedFault nodes closed k)
  closed-fault? =
      map? closed_fault closed_case
      (le? nodes (get_or closed k 0) or? any? (λ j. eq? (j + 1) k and? le? (get_or closed k 0) (get_or closed j 0)) k)

-- ---- 7, the order

abbrev pub OrderCase : (count : ℕ) (order : List ℕ) (p : ℕ) → Type 0
OrderCase count order p = (count ≤ get_or order p 0) ⊎ Some (λ q. get_or order q 0 ≡ get_or order p 0) p

module _ (count : ℕ) (order : List ℕ) (p : ℕ) where
  pub bad_order : OrderCase count order p → BadOrder-at count order p
  bad_order (inl h) = no_carrier h
  bad_order (inr h) = stands_earlier {q = h.k} h.below h.is

  pub order_case : BadOrder-at count order p → OrderCase count order p
  order_case (no_carrier h) = inl h
  order_case (stands_earlier {q = q} l e) = inr (record { k = q; below = l; is = e })

  abbrev pub bad-order? : Test (BadOrder-at count order p)
  bad-order? =
      map? bad_order order_case
      (le? count (get_or order p 0) or? any? (λ q. eq? (get_or order q 0) (get_or order p 0)) p)

-- ---- the stages of a job

abbrev pub nodes-count? : (nodes : ℕ) → Tested (nodes_count nodes)
nodes-count? nodes = once? (lt? nodes 1 or? lt? node_limit nodes)

abbrev pub lanes-count? : (numbers : ℕ) → Tested (lanes_count numbers)
lanes-count? numbers = once? (lt? lane_limit (numbers / 2) or? eq? (numbers % 2) 1)

abbrev pub closed-count? : (count : ℕ) → Tested (closed_count count)
closed-count? count = once? (lt? node_limit count)

abbrev pub carriers-count? : (count : ℕ) → Tested (carriers_count count)
carriers-count? count = once? (lt? carrier_limit count)

abbrev pub order-count? : (order count : ℕ) → Tested (order_count order count)
order-count? order count = once? (not? (eq? order count))

abbrev pub dwell-count? : (dwell : ℕ) → Tested (dwell_count dwell)
dwell-count? dwell = once? (lt? dwell_limit dwell)

abbrev pub each-lane? : (nodes : ℕ) (lanes : List ℕ) → Tested (each_lane nodes lanes)
each-lane? nodes lanes = each? (lanes_in lanes) (lane_checks nodes lanes) (λ k. (lane-fault? nodes lanes k, tt))

abbrev pub each-closed? : (nodes : ℕ) (closed : List ℕ) → Tested (each_closed nodes closed)
each-closed? nodes closed = each? (length closed) (closed_checks nodes closed) (λ k. (closed-fault? nodes closed k, tt))

module _ (nodes : ℕ) (closed moves : List ℕ) where
  abbrev pub move-checks? : (i : ℕ) → ChecksAt (move_checks nodes closed moves) i
  move-checks? i = (
    le? nodes (start_in moves i) or? le? nodes (goal_in moves i),
    (
      eq? (start_in moves i) (goal_in moves i),
      (closed? closed (start_in moves i) or? closed? closed (goal_in moves i), tt),
    ),
  )

  abbrev pub each-move? : Tested (each_move nodes closed moves)
  each-move? = each? (move_count moves) (move_checks nodes closed moves) move-checks?

abbrev pub each-order-place? : (count : ℕ) (order : List ℕ) → Tested (each_order_place count order)
each-order-place? count order = each? (length order) (order_checks count order) (λ p. (bad-order? count order p, tt))

abbrev pub checks? : (j : Numbers) → TestedAll (checks_question j)
checks? j = (
  nodes-count? j.network.nodes,
  (
    lanes-count? (length j.network.lanes),
    (
      closed-count? (length j.network.closed),
      (
        carriers-count? (carriers j),
        (
          order-count? (length j.order) (carriers j),
          (
            dwell-count? j.dwell,
            (
              each-lane? j.network.nodes j.network.lanes,
              (
                each-closed? j.network.nodes j.network.closed,
                (
                  each-move? j.network.nodes j.network.closed j.moves,
                  (each-order-place? (carriers j) j.order, tt),
                ),
              ),
            ),
          ),
        ),
      ),
    ),
  ),
)

-- ---- with the walks

abbrev pub job? : (j : Numbers) → Tested (each_walk j.network j.moves) → TestedAll (job_question j)
job? j walks = both? (checks_question j) (each_walk j.network j.moves ∷ []) (checks? j) (walks, tt)
