-- One entry of the list of closed nodes: it is faulty if it is no node, or if it is not higher than the entry
-- before; and in no other way. The numbers come as the code has read them, with the equation that says where.
-- The entry before entry k stands at k - 1. Assumes nothing.
--     Faulty     the list has an entry k, and it is faulty
--     Found      a node is one of the first k entries
use mathlib.Core.Path.{◌≡◌, ap}
use mathlib.Core.List.{List}
use Prim.Native.Nat.{ℕ, ◌+◌, ◌-◌, ◌≤◌, ◌<◌}
use native.Mathlib.Omega.{arith}
use lib.Dec.{leb}
use lib.ListN.{length, get_or}
use Rattle.hall.specs.Rule.{Answers}
use Rattle.hall.specs.Refusals.{ClosedFault, no_such_node, not_higher}
use Rattle.network.proofs.Tests.{at_most_tells}

abbrev pub Faulty : (nodes : ℕ) (closed : List ℕ) (k : ℕ) → Type 0
Faulty nodes closed k = (k < length closed) × ClosedFault nodes closed k

module _ (nodes : ℕ) (closed : List ℕ) (k node : ℕ)
    (inside : k < length closed)
    (e : node ≡ get_or closed k 0) where
  pub no_node_bad : nodes ≤ node → Faulty nodes closed k
  no_node_bad l = (inside, no_such_node (omega arith))

  sound_entry : node < nodes → ((j : ℕ) → j + 1 ≡ k → get_or closed j 0 < node) → ¬ ClosedFault nodes closed k
  sound_entry l above (no_such_node x) = omega arith
  sound_entry l above (not_higher j s x) = omega (arith, above j s)

  pub first_entry_sound : node < nodes → k ≡ 0 → ¬ Faulty nodes closed k
  first_entry_sound l z f = sound_entry l (λ j s. omega arith) f.1

  module _ (before : ℕ) (b : before ≡ get_or closed (k - 1) 0) where
    pub rising_entry_sound : node < nodes → before < node → ¬ Faulty nodes closed k
    rising_entry_sound l r f = sound_entry l above f.1
      where
        above : (j : ℕ) → j + 1 ≡ k → get_or closed j 0 < node
        above j s =
            let at : j ≡ k - 1 = omega arith in
            omega (arith, ap (λ (n : ℕ). get_or closed n 0) at)

    pub falling_entry_bad : (k ≡ 0 → ⊥) → node ≤ before → Faulty nodes closed k
    falling_entry_bad later r = (inside, not_higher (k - 1) (omega arith) (omega arith))

    pub later_entry_told : node < nodes → (k ≡ 0 → ⊥) → Answers (leb node before) (Faulty nodes closed k)
    later_entry_told l later = at_most_tells node before (falling_entry_bad later) (rising_entry_sound l)

-- ---- a node among the first entries

pub record Found (closed : List ℕ) (node k : ℕ) : Type 0 where
  pub place : ℕ
  pub before : place < k
  pub is : get_or closed place 0 ≡ node
