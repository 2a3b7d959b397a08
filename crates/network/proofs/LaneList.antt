-- One lane of the list: it is faulty if its ends are no pair (lower, higher) of nodes, or if it does not
-- stand above the lane before; and in no other way. Where the lower end is below the higher one, and that is
-- a node, both are. The numbers come as the code has read them, with the equation that says where: the lane
-- before lane k has its two numbers at 2 k - 2 and 2 k - 1. Assumes nothing.
--     Faulty     the list has a lane k, and it is faulty
--     Above      the lane (low, high) stands above the lane (low₀, high₀)
use mathlib.Core.Path.{◌≡◌, sym, ◌∙◌, ap}
use mathlib.Core.Logic.{◌⊎◌, inl, inr}
use mathlib.Core.List.{List}
use Prim.Native.Nat.{ℕ, ◌+◌, ◌*◌, ◌-◌, ◌≤◌, ◌<◌}
use native.Mathlib.Omega.{arith}
use lib.Dec.{ltb, leb}
use lib.ListN.{get_or}
use Rattle.hall.specs.Floor.{lanes_in, lower, higher}
use Rattle.hall.specs.Rule.{Answers}
use Rattle.hall.specs.Refusals.{Exceeds, by_lower, by_higher, LaneFault, no_node, not_below, not_rising}
use Rattle.network.proofs.Tests.{at_most_tells, below_tells}

abbrev pub Faulty : (nodes : ℕ) (lanes : List ℕ) (k : ℕ) → Type 0
Faulty nodes lanes k = (k < lanes_in lanes) × LaneFault nodes lanes k

abbrev pub Above : (low₀ high₀ low high : ℕ) → Type 0
Above low₀ high₀ low high = (low₀ < low) ⊎ ((low₀ ≡ low) × (high₀ < high))

-- the numbers of the lane j before lane k
module _ (lanes : List ℕ) (k low₀ high₀ : ℕ)
    (l₀ : low₀ ≡ get_or lanes (2 * k - 2) 0)
    (h₀ : high₀ ≡ get_or lanes (2 * k - 1) 0)
    (j : ℕ)
    (e : j + 1 ≡ k) where
  lower_before : lower lanes j ≡ low₀
  lower_before = let at : 2 * j ≡ 2 * k - 2 = omega arith in ap (λ (n : ℕ). get_or lanes n 0) at ∙ sym l₀

  higher_before : higher lanes j ≡ high₀
  higher_before = let at : 2 * j + 1 ≡ 2 * k - 1 = omega arith in ap (λ (n : ℕ). get_or lanes n 0) at ∙ sym h₀

module _ (nodes : ℕ) (lanes : List ℕ) (k low high : ℕ)
    (inside : k < lanes_in lanes)
    (l : low ≡ lower lanes k)
    (h : high ≡ higher lanes k) where
  pub falling_ends_bad : high ≤ low → Faulty nodes lanes k
  falling_ends_bad x = (inside, not_below (omega arith))

  pub no_node_bad : nodes ≤ high → Faulty nodes lanes k
  no_node_bad x = (inside, no_node (inr (omega arith)))

  sound_lane : low < high → high < nodes →
      ((j : ℕ) → j + 1 ≡ k → Exceeds lanes k j) →
      ¬ LaneFault nodes lanes k
  sound_lane below node above (no_node (inl x)) = omega arith
  sound_lane below node above (no_node (inr x)) = omega arith
  sound_lane below node above (not_below x) = omega arith
  sound_lane below node above (not_rising {j = j} e x) = x (above j e)

  pub first_lane_sound : low < high → high < nodes → k ≡ 0 → ¬ Faulty nodes lanes k
  first_lane_sound below node z f =
      sound_lane below node (λ j e. absurd (let x : ⊥ = omega arith in x)) f.1

  module _ (low₀ high₀ : ℕ)
      (l₀ : low₀ ≡ get_or lanes (2 * k - 2) 0)
      (h₀ : high₀ ≡ get_or lanes (2 * k - 1) 0) where
    pub rising_lane_sound : low < high → high < nodes → Above low₀ high₀ low high → ¬ Faulty nodes lanes k
    rising_lane_sound below node r f = sound_lane below node (λ j e. above j e r) f.1
      where
        above : (j : ℕ) → j + 1 ≡ k → Above low₀ high₀ low high → Exceeds lanes k j
        above j e (inl x) = by_lower (omega (arith, lower_before lanes k low₀ high₀ l₀ h₀ j e))
        above j e (inr x) =
            let lower = lower_before lanes k low₀ high₀ l₀ h₀ j e in
            let higher = higher_before lanes k low₀ high₀ l₀ h₀ j e in
            by_higher (omega (arith, lower)) (omega (arith, higher))

    pub falling_lane_bad : (k ≡ 0 → ⊥) → ¬ Above low₀ high₀ low high → Faulty nodes lanes k
    falling_lane_bad later n = (inside, not_rising {j = k - 1} before not_above)
      where
        before : k - 1 + 1 ≡ k
        before = omega arith

        not_above : ¬ Exceeds lanes k (k - 1)
        not_above (by_lower x) =
            n (inl (omega (arith, lower_before lanes k low₀ high₀ l₀ h₀ (k - 1) before)))
        not_above (by_higher e x) =
            let lower = lower_before lanes k low₀ high₀ l₀ h₀ (k - 1) before in
            let higher = higher_before lanes k low₀ high₀ l₀ h₀ (k - 1) before in
            n (inr (omega (arith, lower), omega (arith, higher)))

    -- behind a lane with the same lower end the higher ends decide, and behind another the lower ends
    module _ (below : low < high) (node : high < nodes) (later : k ≡ 0 → ⊥) where
      pub same_lower_told : low₀ ≡ low → Answers (leb high high₀) (Faulty nodes lanes k)
      same_lower_told e =
          at_most_tells high high₀
          (λ x. falling_lane_bad later (λ a. elim a [ inl y ↦ omega arith | inr y ↦ omega (arith, y.1) ]))
          (λ x. rising_lane_sound below node (inr (e, x)))

      pub other_lower_told : ¬ (low₀ ≡ low) → Answers (ltb low low₀) (Faulty nodes lanes k)
      other_lower_told n =
          below_tells low low₀
          (λ x. falling_lane_bad later (λ a. elim a [ inl y ↦ omega arith | inr y ↦ n y.0 ]))
          (λ x. rising_lane_sound below node (inl (less x)))
        where
          less : low₀ ≤ low → low₀ < low
          less x = omega arith
