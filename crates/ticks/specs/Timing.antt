-- The start ticks and the cost by a distance table (rule 9.8), an order and a dwell (rules 5.1 to 5.5). A
-- network is not asked for: the table may be any numbers. Ticks by a table alone are no question of the
-- rules, so an input that is not served has no refusal number: a job is checked first, and what is then put
-- here is served.
--     OrderServed       a table with its three blocks, an order that lists different carrier numbers below
--                       its length (nothing of 7 holds of it), no more than a job can have, and room for as
--                       many ticks as a job can have
--     TicksServed       what is served: these, with a dwell that a job can have
--     Given             the ticks by carrier number are the start ticks by the order, and the cost is the sum
--                       of the goal ticks; no other place changed
--     TicksUntouched    what is not served leaves the ticks as they came
--     Priced            an answer: the cost, or that the input is none of those served
--     said_timed        what an answer of src/ says: the cost, or nothing
--     Timing            the promise: the answer with the ticks that it leaves
use Rattle.std.specs.Prelude.{◌≡◌, List, [], ◌∷◌, ℕ, ◌≤◌, length, get_or, Option, Some, None as Nothing}
use Rattle.hall.specs.Limits.{carrier_limit, dwell_limit, table_length}
use Rattle.hall.specs.Stages.{None}
use Rattle.hall.specs.Questions.{each_order_place}
use Rattle.hall.specs.Ticks.{StartTicks, cost_of}
use Rattle.hall.specs.Plan.{tables_in}

pub record OrderServed (table order : List ℕ) (room : ℕ) : Type 0 where
  pub whole_table : table_length ≤ length table
  pub few_places : length order ≤ carrier_limit
  pub sound_order : None (each_order_place (length order) order ∷ [])
  pub enough_room : carrier_limit ≤ room

pub record TicksServed (table order : List ℕ) (dwell room : ℕ) : Type 0 where
  pub listed : OrderServed table order room
  pub dwell_few : dwell ≤ dwell_limit

pub record Given (table order : List ℕ) (dwell : ℕ) (ticks ticks' : List ℕ) (cost : ℕ) : Type 0 where
  pub served : TicksServed table order dwell (length ticks)
  pub start_ticks : StartTicks dwell (tables_in table) order (λ i. get_or ticks' i 0)
  pub cost_is : cost ≡ cost_of (tables_in table) (λ i. get_or ticks' i 0) (length order)
  pub as_many : length ticks' ≡ length ticks
  pub others : (i : ℕ) → length order ≤ i → get_or ticks' i 0 ≡ get_or ticks i 0

pub record TicksUntouched (table order : List ℕ) (dwell : ℕ) (ticks ticks' : List ℕ) : Type 0 where
  pub unserved : ¬ TicksServed table order dwell (length ticks)
  pub kept : ticks' ≡ ticks

pub data Priced : Type 0 where
  costs : ℕ → Priced
  not_served : Priced

abbrev pub said_timed : Option ℕ → Priced
said_timed (Some c) = costs c
said_timed Nothing = not_served

abbrev pub Timing : (table order : List ℕ) (dwell : ℕ) (ticks ticks' : List ℕ) → Priced → Type 0
Timing table order dwell ticks ticks' (costs c) = Given table order dwell ticks ticks' c
Timing table order dwell ticks ticks' not_served = TicksUntouched table order dwell ticks ticks'
