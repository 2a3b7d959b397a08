-- What an accepted job owes the hall (rules 3.4, 3.11, 5.6, 5.7, 5.9 and 12.3), with the dwell w.
--     Apart w     two carriers neither meet nor cross
--     TicksNear w      two ticks are at most w apart
--     Demand3     demand 3 of one choice of shortest paths, a path for each carrier: no two carriers meet or
--                 cross; each comes to its goal exactly its distance after its start, stands there through
--                 the tick that is w later, and at no other tick; it is on the floor from its start tick to
--                 that tick and absent otherwise; the first in the order starts at 0; no other starts later
--                 than one tick after the latest of these last ticks among those before it. That this holds
--                 of every choice is the quantifier of `plan_safe` (proofs/Demand.antt)
--     Demand3OfTwo    what demand 3 says of two carriers, whether they share a start, a goal, both or
--                 neither: they neither meet nor cross; with one start their start ticks differ, and with one
--                 goal their goal ticks are more than w apart; each stands at its goal from its goal tick to
--                 its last tick and at no other. What it says of one carrier or of the order besides,
--                 `Demand3` has
--     Within      the limits of start ticks, goal ticks, last ticks and cost, by the dwell
--     WithinGreatest  the same in numbers, whatever the dwell of a job is
use Rattle.std.specs.Prelude.{◌≡◌, ◌↔◌, ◌≢◌, List, ℕ, ◌+◌, ◌≤◌, ◌<◌, length, get_or}
use Rattle.hall.specs.Limits.{start_limit, goal_limit, last_limit, cost_limit}
use Rattle.hall.specs.Floor.{Floor, Dist}
use Rattle.hall.specs.Ticks.{Tables, own, goal_tick, last_tick, latest}
use Rattle.hall.specs.Path.{At, Meet, Cross}

abbrev pub Apart : (w : ℕ) (path : ℕ → List ℕ) (tick : ℕ → ℕ) → ℕ → ℕ → Type 0
Apart w path tick i j =
    (¬ Meet w (path i) (tick i) (path j) (tick j)) × (¬ Cross w (path i) (tick i) (path j) (tick j))

abbrev pub TicksNear : (w a b : ℕ) → Type 0
TicksNear w a b = (a ≤ b + w) × (b ≤ a + w)

pub record Demand3 (F : Floor) (w k : ℕ) (start goal : ℕ → ℕ) (t : Tables) (order : List ℕ) (tick : ℕ → ℕ)
    (path : ℕ → List ℕ) : Type 0 where
  pub apart : (i j : ℕ) → i < k → j < k → i ≢ j → Apart w path tick i j
  pub distances : (i : ℕ) → i < k → Dist F (start i) (goal i) (own t i)
  pub at_goal : (i : ℕ) → i < k → (x : ℕ) → goal_tick t tick i ≤ x → x ≤ last_tick w t tick i →
      At w (path i) (tick i) x (goal i)
  pub only_then : (i : ℕ) → i < k → (x : ℕ) → At w (path i) (tick i) x (goal i) →
      (goal_tick t tick i ≤ x) × (x ≤ last_tick w t tick i)
  pub present : (i : ℕ) → i < k → (x : ℕ) → tick i ≤ x → x ≤ last_tick w t tick i →
      (v : ℕ) × At w (path i) (tick i) x v
  pub absent : (i : ℕ) → i < k → (x v : ℕ) → At w (path i) (tick i) x v →
      (tick i ≤ x) × (x ≤ last_tick w t tick i)
  pub first_at_0 : 0 < length order → tick (get_or order 0 0) ≡ 0
  pub bound : (q : ℕ) → q < length order → tick (get_or order q 0) ≤ latest order (last_tick w t tick) q + 1

pub record Demand3OfTwo (w : ℕ) (start goal : ℕ → ℕ) (t : Tables) (tick : ℕ → ℕ) (path : ℕ → List ℕ)
    (i j : ℕ) : Type 0 where
  pub apart : Apart w path tick i j
  pub start_ticks_differ : start i ≡ start j → tick i ≢ tick j
  pub goal_ticks_apart : goal i ≡ goal j → ¬ TicksNear w (goal_tick t tick i) (goal_tick t tick j)
  pub first_at_goal : (x : ℕ) →
      At w (path i) (tick i) x (goal i) ↔ ((goal_tick t tick i ≤ x) × (x ≤ last_tick w t tick i))
  pub second_at_goal : (x : ℕ) →
      At w (path j) (tick j) x (goal j) ↔ ((goal_tick t tick j ≤ x) × (x ≤ last_tick w t tick j))

pub record Within (w k : ℕ) (t : Tables) (tick : ℕ → ℕ) (cost : ℕ) : Type 0 where
  pub start_ticks : (i : ℕ) → i < k → tick i ≤ start_limit w
  pub goal_ticks : (i : ℕ) → i < k → goal_tick t tick i ≤ goal_limit w
  pub last_ticks : (i : ℕ) → i < k → last_tick w t tick i ≤ last_limit w
  pub cost_limit_lem : cost ≤ cost_limit w

pub record WithinGreatest (w k : ℕ) (t : Tables) (tick : ℕ → ℕ) (cost : ℕ) : Type 0 where
  pub start_ticks : (i : ℕ) → i < k → tick i ≤ 80577
  pub goal_ticks : (i : ℕ) → i < k → goal_tick t tick i ≤ 81600
  pub last_ticks : (i : ℕ) → i < k → last_tick w t tick i ≤ 81855
  pub cost_limit_lem : cost ≤ 5222400
