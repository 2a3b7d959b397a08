-- Where a node of a shortest path lies: m lanes from its start and d − m from its goal, since a shorter way
-- to it or from it would make a shorter walk of the whole. Assumes nothing.
use mathlib.Core.List.{List}
use Prim.Native.Nat.{ℕ, zero, suc, ◌+◌, ◌-◌, ◌≤◌}
use native.Mathlib.Nat.{add-zero, add-suc, zero-add, add-sub_of_le}
use native.Mathlib.Numerals.{add-one}
use native.Mathlib.Omega.{arith}
use lib.ListN.{get_or}
use Rattle.hall.specs.Floor.{Floor, Walk, here, Dist}
use Rattle.hall.specs.Path.{PathOf, ShortestPath}
use Rattle.hall.proofs.Walks.{join, snoc}
use Rattle.hall.proofs.Lists.{listed}

module _ {F : Floor} {s g d : ℕ} {path : List ℕ} (w : PathOf F s g d path) where
  -- k lanes along the path from its m-th node
  pub along : (m k : ℕ) → m + k ≤ d → Walk F (get_or path m 0) (get_or path (m + k) 0) k
  along m zero h = rw add-zero (here (w.nodes m (omega arith)))
  along m (suc k) h =
      rw add-suc (snoc (along m k (omega arith)) (rw add-one at (w.joins (m + k) (omega arith))) (w.nodes (suc (m + k)) (omega arith)))

  pub from_start : (m : ℕ) → m ≤ d → Walk F s (get_or path m 0) m
  from_start m h = rw (← w.begins) (rw zero-add at (along 0 m (omega arith)))

  pub to_goal : (m : ℕ) → m ≤ d → Walk F (get_or path m 0) g (d - m)
  to_goal m h = rw w.ends at (rw add-sub_of_le at (along m (d - m) (omega arith)))

  -- a path is a walk
  pub walked : Walk F s g d
  walked = rw w.ends at (from_start d (omega arith))

  module _ (short : Dist F s g d) where
    pub start_distance : (m : ℕ) → m ≤ d → Dist F s (get_or path m 0) m
    start_distance m h = record { walk = from_start m h; least = λ n v. let e : d ≤ n + (d - m) = short.least (n + (d - m)) (join v (to_goal m h)) in omega arith }

    pub goal_distance : (m : ℕ) → m ≤ d → Dist F (get_or path m 0) g (d - m)
    goal_distance m h = record { walk = to_goal m h; least = λ n v. let e : d ≤ m + n = short.least (m + n) (join (from_start m h) v) in omega arith }

-- where there is a distance there is a shortest path
pub shortest_exists : {F : Floor} {s g d : ℕ} → Dist F s g d → (l : List ℕ) × ShortestPath F s g l
shortest_exists {d = d} h = let r = listed h.walk in (r.0, record { d = d; short = h; is_path = r.1 })
