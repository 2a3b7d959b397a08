-- The marks that two loops put: that of the closed nodes before the first sweep, and that of the open nodes
-- that no sweep reached after the last. Each goes through a list number by number. Assumes nothing.
--     Shutting           the first k entries of the closed list have been gone through
--     shutting_node      one more, that is a node
--     shutting_other     one more, that is no node
--     Settling           the first i nodes have been gone through
use mathlib.Core.Path.{◌≡◌, refl, sym, ◌∙◌}
use mathlib.Core.Logic.{◌≢◌}
use mathlib.Core.List.{List}
use Prim.Native.Nat.{ℕ, ◌+◌, ◌≤◌, ◌<◌}
use native.Mathlib.Decide.{ℕ_discrete}
use native.Mathlib.Omega.{arith}
use lib.ListN.{length, get_or, set, length-set}
use lib.Seq.{get_or-set_same, get_or-set_other}
use Rattle.hall.specs.Limits.{no_walk_mark}
use Rattle.hall.specs.Floor.{Closed}
use Rattle.walk.specs.Sweep.{unreached_mark}

-- ---- the closed nodes

pub record Shutting (nodes : ℕ) (closed row₀ row : List ℕ) (k : ℕ) : Type 0 where
  pub size : length row ≡ length row₀
  -- the nodes among the entries are marked
  pub marked : (j : ℕ) → j < k → get_or closed j 0 < nodes → get_or row (get_or closed j 0) 0 ≡ no_walk_mark
  -- and nothing else has changed
  pub kept : (v : ℕ) → ¬ Closed closed v → get_or row v 0 ≡ get_or row₀ v 0
  pub beyond : (v : ℕ) → nodes ≤ v → get_or row v 0 ≡ get_or row₀ v 0

module _ {nodes : ℕ} {closed row₀ row : List ℕ} {k : ℕ} (s : Shutting nodes closed row₀ row k) where
  pub shutting_other : nodes ≤ get_or closed k 0 → Shutting nodes closed row₀ row (k + 1)
  shutting_other beyond = record { size = s.size; marked = λ j h. marked j h (ℕ_discrete j k); kept = s.kept; beyond = s.beyond }
    where
      marked : (j : ℕ) → j < k + 1 → Dec (j ≡ k) → get_or closed j 0 < nodes → get_or row (get_or closed j 0) 0 ≡ no_walk_mark
      marked j h (yes e) i = absurd (let same : get_or closed k 0 < nodes = rw e at i in let z : ⊥ = omega arith in z)
      marked j h (no e) i = s.marked j (omega arith) i

  pub shutting_node : nodes ≤ length row₀ → k < length closed → get_or closed k 0 < nodes → Shutting nodes closed row₀ (set row (get_or closed k 0) no_walk_mark) (k + 1)
  shutting_node wide inside node = record {
    size = length-set row (get_or closed k 0) no_walk_mark ∙ s.size;
    marked = λ j h i. marked j h i (ℕ_discrete (get_or closed j 0) (get_or closed k 0));
    kept = λ v n. get_or-set_other row (get_or closed k 0) v no_walk_mark 0 (λ e. n (record { k = k; inside = inside; is = sym e })) ∙ s.kept v n;
    beyond = λ v h. get_or-set_other row (get_or closed k 0) v no_walk_mark 0 (λ e. let z : ⊥ = omega arith in z) ∙ s.beyond v h;
  }
    where
      marked : (j : ℕ) → j < k + 1 → get_or closed j 0 < nodes → Dec (get_or closed j 0 ≡ get_or closed k 0) → get_or (set row (get_or closed k 0) no_walk_mark) (get_or closed j 0) 0 ≡ no_walk_mark
      marked j h i (yes e) = rw e (get_or-set_same row (get_or closed k 0) no_walk_mark 0 (omega (arith, s.size)))
      marked j h i (no e) = get_or-set_other row (get_or closed k 0) (get_or closed j 0) no_walk_mark 0 e ∙ s.marked j (earlier (ℕ_discrete j k)) i
        where
          earlier : Dec (j ≡ k) → j < k
          earlier (yes f) = absurd (e (rw f refl))
          earlier (no f) = omega arith

-- ---- the nodes that were not reached

pub record Settling (row₀ row : List ℕ) (i : ℕ) : Type 0 where
  pub size : length row ≡ length row₀
  pub marked : (v : ℕ) → v < i → get_or row₀ v 0 ≡ unreached_mark → get_or row v 0 ≡ no_walk_mark
  pub kept : (v : ℕ) → get_or row₀ v 0 ≢ unreached_mark → get_or row v 0 ≡ get_or row₀ v 0
  pub beyond : (v : ℕ) → i ≤ v → get_or row v 0 ≡ get_or row₀ v 0
