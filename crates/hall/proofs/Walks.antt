-- Laws of walks and distances, over any floor: walks join and turn round, distances are unique and symmetric
-- and obey the triangle inequality. Each is an induction over one walk. Assumes nothing.
use mathlib.Core.Path.{◌≡◌, sym, ◌∙◌}
use mathlib.Core.Logic.{◌⊎◌, inl, inr, ◌≢◌}
use Prim.Native.Nat.{ℕ, suc, ◌+◌, ◌≤◌, zero-le}
use native.Mathlib.Nat.{zero-add, suc-add, le_antisymm}
use native.Mathlib.Omega.{arith}
use Rattle.hall.specs.Floor.{Floor, Symmetric, Walk, here, step, Dist, NoWalk, DistanceIs, no_walk, distance}
use Rattle.hall.specs.Floor.{Network, floor}

module _ {F : Floor} where
  pub join : {a b c m n : ℕ} → Walk F a b m → Walk F b c n → Walk F a c (m + n)
  join (here a) w = rw zero-add w
  join (step a h v) w = rw suc-add (step a h (join v w))

  -- one lane more
  pub snoc : {a b c n : ℕ} → Walk F a b n → F.Joined b c → F.Node c → Walk F a c (suc n)
  snoc (here a) h c = step a h (here c)
  snoc (step a k v) h c = step a k (snoc v h c)

  -- a walk stands on nodes, at its beginning and at its end
  pub begins_on_node : {a b n : ℕ} → Walk F a b n → F.Node a
  begins_on_node (here a) = a
  begins_on_node (step a h v) = a

  pub ends_on_node : {a b n : ℕ} → Walk F a b n → F.Node b
  ends_on_node (here a) = a
  ends_on_node (step a h v) = ends_on_node v

  pub reverse : Symmetric F → {a b n : ℕ} → Walk F a b n → Walk F b a n
  reverse s (here a) = here a
  reverse s (step {a = a} {b = b} n h v) = snoc (reverse s v) (s a b h) n

  pub dist_unique : {a b d e : ℕ} → Dist F a b d → Dist F a b e → d ≡ e
  dist_unique {d = d} {e = e} p q = le_antisymm (p.least e q.walk) (q.least d p.walk)

  pub triangle : {a b c d e f : ℕ} → Dist F a b d → Dist F b c e → Dist F a c f → f ≤ d + e
  triangle {d = d} {e = e} p q r = r.least (d + e) (join p.walk q.walk)

  pub dist_self : {a : ℕ} → F.Node a → Dist F a a 0
  dist_self n = record { walk = here n; least = λ m w. zero-le }

  pub dist_symmetric : Symmetric F → {a b d : ℕ} → Dist F a b d → Dist F b a d
  dist_symmetric s p = record { walk = reverse s p.walk; least = λ n w. p.least n (reverse s w) }

  pub distance_unique : {a b r t : ℕ} → DistanceIs F a b r → DistanceIs F a b t → r ≡ t
  distance_unique (no_walk p n) (no_walk q m) = p ∙ sym q
  distance_unique {r = r} {t = t} (no_walk p n) (distance q e) = absurd (n t e.walk)
  distance_unique {r = r} {t = t} (distance p d) (no_walk q m) = absurd (m r d.walk)
  distance_unique (distance p d) (distance q e) = dist_unique d e

  pub distance_symmetric : Symmetric F → {a b r : ℕ} → DistanceIs F a b r → DistanceIs F b a r
  distance_symmetric s (no_walk e n) = no_walk e (λ k w. n k (reverse s w))
  distance_symmetric s (distance small d) = distance small (dist_symmetric s d)

  -- a number that is not the mark is a distance
  pub true_distance : {a b r : ℕ} → DistanceIs F a b r → r ≢ 65535 → Dist F a b r
  true_distance (no_walk e none) h = absurd (h e)
  true_distance (distance small d) h = d

  pub distance_small : {a b r : ℕ} → DistanceIs F a b r → r ≢ 65535 → r ≤ 1023
  distance_small (no_walk e none) h = absurd (h e)
  distance_small (distance small d) h = small

  -- the mark stands for no walk, and nothing else does
  pub marked_none : {a b r : ℕ} → DistanceIs F a b r → r ≡ 65535 → NoWalk F a b
  marked_none (no_walk e none) h = none
  marked_none (distance small d) h = absurd (let x : ⊥ = omega arith in x)

  pub unmarked_walk : {a b r : ℕ} → DistanceIs F a b r → r ≢ 65535 → ¬ NoWalk F a b
  unmarked_walk {r = r} h unmarked none = none r (true_distance h unmarked).walk

pub lanes_symmetric : (N : Network) → Symmetric (floor N)
lanes_symmetric N a b l = record { k = l.k; inside = l.inside; ends = turned l.ends }
  where
    turned : {A B : Type 0} → A ⊎ B → B ⊎ A
    turned (inl x) = inr x
    turned (inr x) = inl x
