-- The limits of ticks and cost as numbers (rule 5.6): without dwell, with the greatest, and that those
-- between lie between. Assumes nothing.
--     limits_without_dwell    with dwell 0: 64,512, 65,535, 65,535 and 4,194,240
--     limits_greatest         with dwell 255: 80,577, 81,600, 81,855 and 5,222,400
--     limits_grow             a longer dwell has no lower limit
--     within_greatest         what is within the limits of a dwell of at most 255 is within the greatest
--     within_plain            what is within the limits without dwell is within those of page 01
use mathlib.Core.Path.{◌≡◌, refl}
use Prim.Native.Nat.{ℕ, ◌≤◌}
use native.Mathlib.Omega.{arith}
use Rattle.hall.specs.Limits.{dwell_limit, start_limit, goal_limit, last_limit, cost_limit}
use Rattle.hall.specs.Ticks.{Tables}
use Rattle.hall.specs.Safety.{Within, WithinGreatest}
use Rattle.hall.specs.NoDwell.{PlainWithin}

pub limits_without_dwell :
    (start_limit 0 ≡ 64512) × (goal_limit 0 ≡ 65535) × (last_limit 0 ≡ 65535) × (cost_limit 0 ≡ 4194240)
limits_without_dwell = (refl, refl, refl, refl)

pub limits_greatest :
    (start_limit dwell_limit ≡ 80577)
    × (goal_limit dwell_limit ≡ 81600)
    × (last_limit dwell_limit ≡ 81855)
    × (cost_limit dwell_limit ≡ 5222400)
limits_greatest = (refl, refl, refl, refl)

pub limits_grow : (v w : ℕ) → v ≤ w →
    (start_limit v ≤ start_limit w) × (goal_limit v ≤ goal_limit w) × (last_limit v ≤ last_limit w) × (cost_limit v ≤ cost_limit w)
limits_grow v w h = (omega arith, omega arith, omega arith, omega arith)

pub within_greatest : {w k : ℕ} {t : Tables} {tick : ℕ → ℕ} {cost : ℕ} → w ≤ dwell_limit
    → Within w k t tick cost → WithinGreatest w k t tick cost
within_greatest few d = record {
  start_ticks = λ i h. let b = d.start_ticks i h in omega arith;
  goal_ticks = λ i h. let b = d.goal_ticks i h in omega arith;
  last_ticks = λ i h. let b = d.last_ticks i h in omega arith;
  cost_limit_lem = let b = d.cost_limit_lem in omega arith;
}

pub within_plain : {k : ℕ} {t : Tables} {tick : ℕ → ℕ} {cost : ℕ}
    → Within 0 k t tick cost → PlainWithin k t tick cost
within_plain d = record { start_ticks = d.start_ticks; goal_ticks = d.goal_ticks; cost_limit_lem = d.cost_limit_lem }
