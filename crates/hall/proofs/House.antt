-- A move has exactly one house path. At most one: two that agree up to a node take the same next one, since
-- each is not above the other. At least one: where a walk of d + 1 lanes leads to the goal there is a
-- neighbour with a walk of d lanes, it can be decided which numbers are such neighbours, so there is a lowest
-- one; from it the rest is the house path by induction over d. A neighbour with a walk of d lanes has
-- distance d, since a shorter way from it would make a shorter way of the whole. Assumes nothing.
use mathlib.Core.Path.{◌≡◌, sym, ◌∙◌, subst}
use mathlib.Core.List.{List, [], ◌∷◌}
use Prim.Native.Nat.{ℕ, zero, suc, ◌+◌, ◌-◌, ◌≤◌, ◌<◌}
use native.Mathlib.Nat.{le_antisymm, not-suc-le-zero}
use native.Mathlib.Numerals.{add-one}
use native.Mathlib.Omega.{arith}
use lib.ListN.{get_or}
use lib.Seq.{ext_get_or}
use Rattle.hall.specs.Floor.{Floor, Walk, here, step, Dist, Network, floor}
use Rattle.hall.specs.Path.{PathOf, HousePath}
use Rattle.hall.proofs.Walks.{begins_on_node}
use Rattle.hall.proofs.Lists.{path_one, path_cons}
use Rattle.hall.proofs.Paths.{goal_distance}
use Rattle.hall.proofs.Lowest.{dec_and, lowest_of}
use Rattle.hall.proofs.Decide.{walk?, lane?, node_below, open?}

-- ---- at most one

module _ {F : Floor} {s g d : ℕ} where
  -- where a path of the house is at a path's node, its next node is not above that path's next
  pub next_le : {l l' : List ℕ} → HousePath F s g d l → PathOf F s g d l' → (k : ℕ) → k < d → get_or l k 0 ≡ get_or l' k 0 → get_or l (k + 1) 0 ≤ get_or l' (k + 1) 0
  next_le {l} {l'} h p k lt e = h.lowest k lt (get_or l' (k + 1) 0) (rw e (p.joins k lt)) (goal_distance p h.short (k + 1) (omega arith))

  same_node : {l l' : List ℕ} → HousePath F s g d l → HousePath F s g d l' → (k : ℕ) → k ≤ d → get_or l k 0 ≡ get_or l' k 0
  same_node h h' zero lt = h.is_path.begins ∙ sym h'.is_path.begins
  same_node h h' (suc k) lt =
      let e = same_node h h' k (omega arith) in
      rw (← add-one k) (le_antisymm (next_le h h'.is_path k lt e) (next_le h' h.is_path k lt (sym e)))

  pub house_unique : {l l' : List ℕ} → HousePath F s g d l → HousePath F s g d l' → l ≡ l'
  house_unique {l} {l'} h h' = ext_get_or 0 l l' (h.is_path.size ∙ sym h'.is_path.size) (λ k lt. same_node h h' k (omega (arith, h.is_path.size)))

-- ---- at least one

-- the first lane of a shortest walk leads one nearer
abbrev Nearer : (F : Floor) (s g d v : ℕ) → Type 0
Nearer F s g d v = F.Joined s v × Walk F v g d

module _ {F : Floor} where
  nearer_distance : {s g d v : ℕ} → Dist F s g (suc d) → Nearer F s g d v → Dist F v g d
  nearer_distance short h = record { walk = h.1; least = λ n w. let l = short.least (suc n) (step (begins_on_node short.walk) h.0 w) in omega arith }

  first_nearer : {s g d : ℕ} → Walk F s g (suc d) → (v : ℕ) × Nearer F s g d v
  first_nearer (step {b = v} n h w) = (v, (h, w))

  house_here : {s g : ℕ} → Walk F s g zero → (l : List ℕ) × HousePath F s g zero l
  house_here (here {a = a} n) = (
    a ∷ [],
    record {
      short = record { walk = here n; least = λ m w. omega arith };
      is_path = path_one n;
      lowest = λ k h v e d. absurd (not-suc-le-zero h);
    },
  )

  -- from the lowest of the nodes that are one nearer
  house_cons : {s g d v : ℕ} {l : List ℕ} → Dist F s g (suc d) → F.Joined s v → ((u : ℕ) → Nearer F s g d u → v ≤ u) → HousePath F v g d l → HousePath F s g (suc d) (s ∷ l)
  house_cons {s} {g} {d} {v} {l} short h first rest = record {
    short = short;
    is_path = path_cons (begins_on_node short.walk) h rest.is_path;
    lowest = lowest;
  }
    where
      lowest : (k : ℕ) → k < suc d → (u : ℕ) → F.Joined (get_or (s ∷ l) k 0) u → Dist F u g (suc d - (k + 1)) → get_or (s ∷ l) (k + 1) 0 ≤ u
      lowest zero m u e far =
          let less : suc d - (0 + 1) ≡ d = omega arith in
          rw rest.is_path.begins (first u (e, subst (Walk F u g) less far.walk))
      lowest (suc k) m u e far =
          let same : suc d - (suc k + 1) ≡ d - (k + 1) = omega arith in
          rw add-one (rw add-one at (rest.lowest k (omega arith) u e (subst (Dist F u g) same far)))

  module _ (n : ℕ) (finite : (v : ℕ) → F.Node v → v < n) (node? : (v : ℕ) → Dec (F.Node v)) (joined? : (a b : ℕ) → Dec (F.Joined a b)) where
    pub house_on_floor : (d : ℕ) {s g : ℕ} → Dist F s g d → (l : List ℕ) × HousePath F s g d l
    house_on_floor zero short = house_here short.walk
    house_on_floor (suc d) {s} {g} short =
        let one = first_nearer short.walk in
        let low = lowest_of (λ v. dec_and (joined? s v) (walk? n finite node? joined? d v g)) one.0 one.1 in
        let rest = house_on_floor d (nearer_distance short low.1) in
        (s ∷ rest.0, house_cons short low.1.0 low.2 rest.1)

-- of a move on a network whose goal can be reached
pub house_exists : (N : Network) {s g d : ℕ} → Dist (floor N) s g d → (l : List ℕ) × HousePath (floor N) s g d l
house_exists N {d = d} = house_on_floor N.nodes (node_below N) (open? N) (lane? N.lanes) d
