-- Every two numbers have a distance, or no walk joins them. On a floor with finitely many nodes, whose nodes
-- and lanes can be decided, it can be decided whether a walk of m lanes joins two numbers: the next node is
-- one of finitely many. Where there is a walk there is a least length, and that is below the number of nodes
-- (`dist_below`); so if no length below it has a walk then none has. On at most 1,024 nodes that is a number
-- that stands for the distance. Assumes nothing.
use mathlib.Core.Path.{◌≡◌, refl, subst}
use mathlib.Core.Logic.{◌⊎◌, inl, inr}
use mathlib.Core.List.{List}
use Prim.Native.Nat.{ℕ, zero, suc, ◌≤◌, ◌<◌}
use native.Mathlib.Decide.{ℕ_discrete, map_dec}
use native.Mathlib.Omega.{arith}
use Rattle.hall.specs.Limits.{node_limit}
use Rattle.hall.specs.Floor.{Floor, Walk, here, step, Dist, NoWalk, DistanceIs, no_walk, distance, Lane, Network, Open, floor}
use Rattle.hall.proofs.Walks.{begins_on_node}
use Rattle.hall.proofs.Pigeon.{dist_below}
use Rattle.hall.proofs.Test.{dec}
use Rattle.hall.proofs.FloorTests as tests
use Rattle.hall.proofs.Lowest.{dec_and, Lowest, found, nowhere, lowest_below, lowest_of, Below, dec_some}

-- ---- walks of a length

-- a walk of no lanes, and a walk by its first lane
stands : {F : Floor} {a b : ℕ} → Walk F a b zero → (F.Node a) × (a ≡ b)
stands (here n) = (n, refl)

stays : {F : Floor} {a b : ℕ} → (F.Node a) × (a ≡ b) → Walk F a b zero
stays {F} {a} {b} h = subst (λ (x : ℕ). Walk F a x zero) h.1 (here h.0)

abbrev FirstLane : (F : Floor) (a b m v : ℕ) → Type 0
FirstLane F a b m v = (F.Node a) × (F.Joined a v) × (Walk F v b m)

by_first : {F : Floor} {a b m n : ℕ} → Below (FirstLane F a b m) n → Walk F a b (suc m)
by_first h = step h.has.0 h.has.1 h.has.2

first_of : {F : Floor} {a b m : ℕ} (n : ℕ) → ((v : ℕ) → F.Node v → v < n) → Walk F a b (suc m) → Below (FirstLane F a b m) n
first_of n finite (step {b = v} s h w) = record { number = v; below = finite v (begins_on_node w); has = (s, h, w) }

module _ {F : Floor} (n : ℕ) (finite : (v : ℕ) → F.Node v → v < n) (node? : (v : ℕ) → Dec (F.Node v)) (joined? : (a b : ℕ) → Dec (F.Joined a b)) where
  pub walk? : (m a b : ℕ) → Dec (Walk F a b m)
  walk? zero a b = map_dec stays stands (dec_and (node? a) (ℕ_discrete a b))
  walk? (suc m) a b = map_dec by_first (first_of n finite) (dec_some (λ v. three (node? a) (joined? a v) (walk? m v b)) n)
    where
      three : {A B C : Type 0} → Dec A → Dec B → Dec C → Dec (A × B × C)
      three x y z = map_dec (λ h. (h.0.0, h.0.1, h.1)) (λ h. ((h.0, h.1), h.2)) (dec_and (dec_and x y) z)

  -- a walk has a least length
  pub distance_of_walk : (a b m : ℕ) → Walk F a b m → (d : ℕ) × Dist F a b d
  distance_of_walk a b m w = let r = lowest_of (λ k. walk? k a b) m w in (r.0, record { walk = r.1; least = r.2 })

  pub distance_or_none : (a b : ℕ) → ((d : ℕ) × Dist F a b d) ⊎ NoWalk F a b
  distance_or_none a b = cases (lowest_below (λ k. walk? k a b) n)
    where
      cases : Lowest (Walk F a b) n → ((d : ℕ) × Dist F a b d) ⊎ NoWalk F a b
      cases (found k l w first) = inl (distance_of_walk a b k w)
      cases (nowhere none) = inr (λ m w. let r = distance_of_walk a b m w in none r.0 (dist_below n finite r.1) r.1.walk)

  pub number_of_distance : n ≤ 1024 → (a b : ℕ) → (r : ℕ) × DistanceIs F a b r
  number_of_distance limit a b = cases (distance_or_none a b)
    where
      cases : ((d : ℕ) × Dist F a b d) ⊎ NoWalk F a b → (r : ℕ) × DistanceIs F a b r
      cases (inl h) = let l = dist_below n finite h.1 in (h.0, distance (omega arith) h.1)
      cases (inr none) = (65535, no_walk refl none)

-- ---- the floor of a network

pub lane? : (lanes : List ℕ) (a b : ℕ) → Dec (Lane lanes a b)
lane? lanes a b = dec (tests.lane? lanes a b)

-- a node of the floor is numbered, and whether it is open can be seen
pub node_below : (N : Network) (v : ℕ) → Open N v → v < N.nodes
node_below N v h = h.numbered

pub open? : (N : Network) (v : ℕ) → Dec (Open N v)
open? N v = dec (tests.open? N v)

module _ (N : Network) where
  pub joined_or_not : (a b : ℕ) → ((d : ℕ) × Dist (floor N) a b d) ⊎ NoWalk (floor N) a b
  joined_or_not = distance_or_none N.nodes (node_below N) (open? N) (lane? N.lanes)

  pub no-walk? : (a b : ℕ) → Dec (NoWalk (floor N) a b)
  no-walk? a b = cases (joined_or_not a b)
    where
      cases : ((d : ℕ) × Dist (floor N) a b d) ⊎ NoWalk (floor N) a b → Dec (NoWalk (floor N) a b)
      cases (inl h) = no (λ none. none h.0 h.1.walk)
      cases (inr none) = yes none

  -- on at most 1,024 nodes there is a number that stands for the distance
  pub distance_exists : N.nodes ≤ node_limit → (a b : ℕ) → (r : ℕ) × DistanceIs (floor N) a b r
  distance_exists = number_of_distance N.nodes (node_below N) (open? N) (lane? N.lanes)
