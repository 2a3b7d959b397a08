-- A walk as a list of nodes: what is said of paths follows for walks. By induction over the walk, a node in
-- front at each lane. Assumes nothing.
use mathlib.Core.Path.{refl}
use mathlib.Core.List.{List, [], ◌∷◌}
use Prim.Native.Nat.{ℕ, zero, suc, ◌+◌, ◌≤◌, ◌<◌}
use native.Mathlib.Numerals.{add-one}
use native.Mathlib.Omega.{arith}
use lib.ListN.{get_or}
use Rattle.hall.specs.Floor.{Floor, Walk, here, step}
use Rattle.hall.specs.Path.{PathOf}

module _ {F : Floor} where
  pub path_one : {a : ℕ} → F.Node a → PathOf F a a 0 (a ∷ [])
  path_one {a} n = record { size = refl; begins = refl; ends = refl; nodes = one; joins = λ k h. absurd (let x : ⊥ = omega arith in x) }
    where
      one : (k : ℕ) → k ≤ 0 → F.Node (get_or (a ∷ []) k 0)
      one zero h = n
      one (suc k) h = absurd (let x : ⊥ = omega arith in x)

  pub path_cons : {a b c d : ℕ} {l : List ℕ} → F.Node a → F.Joined a b → PathOf F b c d l → PathOf F a c (suc d) (a ∷ l)
  path_cons {a} {b} {c} {d} {l} n h p = record { size = omega (arith, p.size); begins = refl; ends = p.ends; nodes = stood; joins = joined }
    where
      stood : (k : ℕ) → k ≤ suc d → F.Node (get_or (a ∷ l) k 0)
      stood zero k = n
      stood (suc k) m = p.nodes k (omega arith)

      joined : (k : ℕ) → k < suc d → F.Joined (get_or (a ∷ l) k 0) (get_or (a ∷ l) (k + 1) 0)
      joined zero k = rw p.begins h
      joined (suc k) m = rw add-one (rw add-one at (p.joins k (omega arith)))

  pub listed : {a b n : ℕ} → Walk F a b n → (l : List ℕ) × PathOf F a b n l
  listed (here {a = a} n) = (a ∷ [], path_one n)
  listed (step {a = a} n h v) = let r = listed v in (a ∷ r.0, path_cons n h r.1)
