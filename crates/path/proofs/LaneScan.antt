-- The search for a lane that joins two nodes, as a loop passes the lanes: if none of the lanes passed joins a
-- and b, and the one at place i does not, either way round, none before i + 2 does (hall's `lane_before`);
-- with all of them passed, no lane joins a and b. Assumes nothing.
--     Passed    none of the lanes before place i of the list joins a and b
use mathlib.Core.Path.{◌≡◌, sym, ◌∙◌}
use mathlib.Core.Bool.{false, ◌&&◌}
use mathlib.Core.List.{List}
use Prim.Native.Nat.{ℕ, ◌+◌, ◌*◌, ◌%◌, ◌≤◌, ◌<◌}
use native.Mathlib.Decide.{dec_lt}
use native.Mathlib.Omega.{arith}
use lib.Dec.{eqb}
use lib.ListN.{length, get_or}
use Rattle.std.proofs.lemmas.Bool.{eq-eqb, and_from}
use Rattle.hall.proofs.Answers.{true_not_false}
use Rattle.hall.specs.Floor.{Lane}
use Rattle.hall.proofs.LaneList.{LaneBefore, earlier, forth, back, lane_before}

-- ---- a pair that the test finds to be another

pub other_pair : (x y a b : ℕ) → false ≡ (eqb x a && eqb y b) → (x ≡ a) × (y ≡ b) → ⊥
other_pair x y a b e h = true_not_false (sym (and_from _ _ (eq-eqb x a h.0) (eq-eqb y b h.1)) ∙ sym e)

-- ---- the lanes passed

module _ (lanes : List ℕ) (a b : ℕ) where
  pub Passed : ℕ → Type 0
  Passed i = (l : Lane lanes a b) → i ≤ 2 * l.k

  pub passed_none : Passed 0
  unfolding Passed
  passed_none l = omega arith

  module _ (i : ℕ) where
    pub passed_more : i % 2 ≡ 0
        → ((get_or lanes i 0 ≡ a) × (get_or lanes (i + 1) 0 ≡ b) → ⊥)
        → ((get_or lanes i 0 ≡ b) × (get_or lanes (i + 1) 0 ≡ a) → ⊥)
        → Passed i → Passed (i + 2)
    unfolding Passed
    passed_more even f g before l = side (dec_lt (2 * l.k) (i + 2))
      where
        not_here : LaneBefore lanes a b i l.k → ⊥
        not_here (earlier h) = omega (arith, before l)
        not_here (forth x y) = f (x, y)
        not_here (back x y) = g (x, y)

        side : Dec (2 * l.k < i + 2) → i + 2 ≤ 2 * l.k
        side (yes h) = absurd (not_here (lane_before lanes i even l h))
        side (no h) = omega arith

    pub passed_all : Passed i → length lanes ≤ i + 1 → ¬ Lane lanes a b
    unfolding Passed
    passed_all p e l = omega (arith, p l, l.inside)
