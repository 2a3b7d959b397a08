-- What the steps of placing (rules 5.1 to 5.3) promise to one another. No public promise cites them.
--     Early          the carrier at place p, before q, starts at tick 65,791 p at the latest, whatever the
--                    table holds: a number of 16 bits, the greatest dwell and one tick more for each carrier
--                    before it
--     PlacedNext     the carrier at place q has got the smallest tick that the carriers placed before it
--                    permit where all have the dwell w, and nothing else changed
--     PlacedTo       the carriers at the places before q have their start ticks; all other numbers are as
--                    they came
use Rattle.std.specs.Prelude.{◌≡◌, ◌≢◌, List, ℕ, ◌*◌, ◌≤◌, ◌<◌, length, get_or, set}
use Rattle.hall.specs.Ticks.{SmallestFrom, PermittedAt}
use Rattle.hall.specs.Plan.{tables_in}

pub record Early (order ticks : List ℕ) (q : ℕ) : Type 0 where
  pub by_place : (p : ℕ) → p < q → get_or ticks (get_or order p 0) 0 ≤ 65791 * p

pub record PlacedNext (w : ℕ) (table order ticks ticks' : List ℕ) (q : ℕ) : Type 0 where
  pub tick : ℕ
  pub smallest : SmallestFrom 0 (PermittedAt w (tables_in table) order (λ i. get_or ticks i 0) q) tick
  pub early : tick ≤ 65791 * q
  pub written : ticks' ≡ set ticks (get_or order q 0) tick

pub record PlacedTo (w : ℕ) (table order ticks ticks' : List ℕ) (q : ℕ) : Type 0 where
  pub as_many : length ticks' ≡ length ticks
  pub smallest : (p : ℕ) → p < q →
      SmallestFrom 0 (PermittedAt w (tables_in table) order (λ i. get_or ticks' i 0) p)
      (get_or ticks' (get_or order p 0) 0)
  pub early : Early order ticks' q
  pub others : (i : ℕ) → ((p : ℕ) → p < q → get_or order p 0 ≢ i) → get_or ticks' i 0 ≡ get_or ticks i 0
