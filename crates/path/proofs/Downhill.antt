-- A row of distances to the goal, seen from one node. A lane runs both ways, so the distance from the goal is
-- that to the goal. A node with a lane left to go has a neighbour with one lane less: the first lane of a
-- shortest walk leads there. So where lanes are left to go, the lowest-numbered such neighbour exists and is
-- what `next_node` answers. Assumes nothing.
use mathlib.Core.Path.{◌≡◌, refl, subst}
use mathlib.Core.Logic.{◌≢◌}
use mathlib.Core.List.{List}
use Prim.Native.Nat.{ℕ, zero, suc, ◌≤◌, ◌<◌}
use native.Mathlib.Nat.{le_of_suc-le-suc}
use native.Mathlib.Omega.{arith}
use lib.ListN.{get_or}
use Rattle.std.specs.Prelude.{Option, Some, None as Nothing}
use Rattle.hall.specs.Limits.{no_walk_mark}
use Rattle.hall.specs.Floor.{Floor, Walk, here, step, Dist, distance, Lane, Network, floor}
use Rattle.hall.proofs.Walks.{begins_on_node, dist_symmetric, distance_unique, true_distance, distance_small}
use Rattle.hall.proofs.Walks.{lanes_symmetric}
use Rattle.path.specs.Steps.{Downhill, Next, LowestNext}

-- the first lane of a shortest walk
lane_of : {F : Floor} {u g m : ℕ} → Walk F u g (suc m) → ((i : ℕ) → Walk F u g i → suc m ≤ i) →
    (b : ℕ) × F.Joined u b × Dist F b g m
lane_of (step {b = b} n e w) least =
    (b, e, record { walk = w; least = λ i v. le_of_suc-le-suc (least (suc i) (step n e v)) })

pub first_lane : {F : Floor} {u g m : ℕ} → Dist F u g (suc m) → (b : ℕ) × F.Joined u b × Dist F b g m
first_lane h = lane_of h.walk h.least

no_lanes : {F : Floor} {a b : ℕ} → Walk F a b zero → a ≡ b
no_lanes (here n) = refl

-- before the goal there are lanes to go, at the goal there are none
pub lanes_left_lem : {F : Floor} {u g left : ℕ} → Dist F u g left → u ≢ g → 0 < left
lanes_left_lem {F} {u} {g} {left} h away = cases left h
  where
    cases : (n : ℕ) → Dist F u g n → 0 < n
    cases zero h = absurd (away (no_lanes h.walk))
    cases (suc m) h = omega arith

pub none_left : {F : Floor} {u g left : ℕ} → Dist F u g left → u ≡ g → left ≡ 0
none_left {F} {u} {g} {left} h e =
    let stays : Walk F u g 0 = subst (λ (v : ℕ). Walk F u v 0) e (here (begins_on_node h.walk)) in
    omega (arith, h.least 0 stays)

module _ {N : Network} {s g : ℕ} {row : List ℕ} (down : Downhill N s g row) where
  -- the distance to the goal that the row has
  pub row_distance : (v : ℕ) → v < N.nodes → get_or row v 0 ≢ no_walk_mark → Dist (floor N) v g (get_or row v 0)
  row_distance v l h = dist_symmetric (lanes_symmetric N) (true_distance (down.distances v l) h)

  pub start_distance : Dist (floor N) s g (get_or row s 0)
  start_distance = row_distance s down.numbered down.reached

  pub start_small : get_or row s 0 ≤ 1023
  start_small = distance_small (down.distances s down.numbered) down.reached

  module _ {u m : ℕ} (small : m ≤ 1023) where
    -- a neighbour with m lanes to go is in the row as such
    pub next_of : (v : ℕ) → Lane N.lanes u v → Dist (floor N) v g m → Next N.nodes N.lanes row u m v
    next_of v l h =
        let on : v < N.nodes = (begins_on_node h.walk).numbered in
        let back = distance small (dist_symmetric (lanes_symmetric N) h) in
        record {
          numbered = on;
          lane = l;
          at_distance = distance_unique (down.distances v on) back;
        }

    pub next_distance : {v : ℕ} → Next N.nodes N.lanes row u m v → Dist (floor N) v g m
    next_distance {v} n =
        subst (λ (d : ℕ). Dist (floor N) v g d) n.at_distance
        (row_distance v n.numbered (λ e. omega (arith, n.at_distance)))

    -- `next_node` answers such a neighbour, since there is one
    pub next_found : (r : Option ℕ) → Dist (floor N) u g (suc m) → LowestNext N.nodes N.lanes row u m r
        → (v : ℕ) × (r ≡ Some v) × Next N.nodes N.lanes row u m v
    next_found (Some v) h n = (v, refl, n.is_next v refl)
    next_found Nothing h n = let b = first_lane h in absurd (n.lowest b.0 (next_of b.0 b.1 b.2))
