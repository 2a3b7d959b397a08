-- The sum of the goal ticks, taken one carrier at a time from the first. Once all are placed, every carrier's
-- tick is early: at most 64 carriers start at tick 65,791 × 63 at the latest. So the sum fits 32 bits: it has
-- at most 64 parts, each an early tick and a distance of 16 bits. Assumes nothing.
use mathlib.Core.Path.{◌≡◌, refl}
use mathlib.Core.List.{List}
use Prim.Native.Nat.{ℕ, ◌+◌, ◌*◌, ◌≤◌, ◌<◌, min}
use native.Mathlib.Numerals.{add-one}
use native.Mathlib.Omega.{arith}
use lib.ListN.{length, get_or}
use Rattle.hall.specs.Limits.{carrier_limit, block_length}
use Rattle.hall.specs.Ticks.{total, goal_tick, cost_of}
use Rattle.hall.specs.Plan.{tables_in}
use Rattle.hall.proofs.Ticks.{total_limit}
use Rattle.ticks.specs.Timing.{OrderServed}
use Rattle.ticks.specs.Steps.{Early}
use Rattle.ticks.proofs.Order.{every_carrier}

pub total_none : (f : ℕ → ℕ) → total 0 f ≡ 0
unfolding total
total_none f = refl

pub total_more : (k : ℕ) (f : ℕ → ℕ) → total (k + 1) f ≡ total k f + f k
unfolding total
total_more k f = rw add-one

module _ {table order : List ℕ} {room : ℕ} (s : OrderServed table order room) (ticks : List ℕ) where
  all_early : Early order ticks (length order) → (i : ℕ) → i < length order → get_or ticks i 0 ≤ 4144833
  all_early e =
      every_carrier s (λ i. get_or ticks i 0 ≤ 4144833) (λ p h. omega (arith, e.by_place p h, s.few_places))

  -- no carrier of an order that is served is past the limit of the sum
  pub cost_whole : {cost : ℕ} →
      cost ≡ cost_of (tables_in table) (λ i. get_or ticks i 0) (min (length order) carrier_limit) →
      cost ≡ cost_of (tables_in table) (λ i. get_or ticks i 0) (length order)
  cost_whole e =
      let all : min (length order) carrier_limit ≡ length order = omega (arith, s.few_places) in rw all at e

  pub cost_fits : ((x : ℕ) → get_or table x 0 < 65536) → Early order ticks (length order) →
      cost_of (tables_in table) (λ i. get_or ticks i 0) (length order) < 4294967296
  cost_fits small e =
      let parts = total_limit (length order) (goal_tick (tables_in table) (λ i. get_or ticks i 0)) 4210368 part in
      omega (arith, parts, s.few_places)
    where
      part : (i : ℕ) → i < length order → goal_tick (tables_in table) (λ j. get_or ticks j 0) i ≤ 4210368
      part i h = omega (arith, all_early e i h, small (block_length + (carrier_limit * i + i)))
