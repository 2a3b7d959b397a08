-- The carriers that are placed already, held against a new one (crate rule, specs/Held.antt): what gathering
-- them from a table, an order and ticks by carrier number promises. The new carrier is given by its number
-- and need not stand in the order. Of the order only the places before q are asked for.
--     HeldAt             what is held at place p is the start tick of the carrier at place p of the order,
--                        and its pair with the new carrier
--     GatherServed       what is served: a table with its three blocks, a new carrier with a number that a
--                        job can have, q places in the order and in the held list, and at each place of the
--                        order before q a carrier number that a job can have and that has a tick. Of the
--                        ticks and of the held list only the lengths count, `timed` and `room`
--     Gathered           the places before n are held so, and every place after them is as it came
--     HeldFilled         what is served leaves the places before q held so
--     GatherUntouched    what is not served leaves the held list as it came
--     Gathering          the promise: the one or the other
use Rattle.std.specs.Prelude.{◌≡◌, Bool, true, false, List, ℕ, ◌≤◌, ◌<◌, length, get_or}
use Rattle.hall.specs.Limits.{carrier_limit, table_length}
use Rattle.hall.specs.Ticks.{pair_of}
use Rattle.hall.specs.Plan.{tables_in}
use Rattle.rule.specs.declared.Held.{Held}
use Rattle.rule.specs.Held.{held_at, held_tick, held_pair}

pub record HeldAt (table order ticks : List ℕ) (held : List Held) (new p : ℕ) : Type 0 where
  pub tick_is : held_tick held p ≡ get_or ticks (get_or order p 0) 0
  pub pair_is : held_pair held p ≡ pair_of (tables_in table) (get_or order p 0) new

pub record GatherServed (table order : List ℕ) (timed q new room : ℕ) : Type 0 where
  pub whole_table : table_length ≤ length table
  pub new_numbered : new < carrier_limit
  pub within_order : q ≤ length order
  pub enough_room : q ≤ room
  pub numbered : (p : ℕ) → p < q → get_or order p 0 < carrier_limit
  pub ticked : (p : ℕ) → p < q → get_or order p 0 < timed

pub record Gathered (table order ticks : List ℕ) (held held' : List Held) (new n : ℕ) : Type 0 where
  pub as_many : length held' ≡ length held
  pub each : (p : ℕ) → p < n → HeldAt table order ticks held' new p
  pub beyond : (x : ℕ) → n ≤ x → held_at held' x ≡ held_at held x

pub record HeldFilled (table order ticks : List ℕ) (q new : ℕ) (held held' : List Held) : Type 0 where
  pub served : GatherServed table order (length ticks) q new (length held)
  pub gathered : Gathered table order ticks held held' new q

pub record GatherUntouched (table order ticks : List ℕ) (q new : ℕ) (held held' : List Held) : Type 0 where
  pub unserved : ¬ GatherServed table order (length ticks) q new (length held)
  pub kept : held' ≡ held

abbrev pub Gathering : (table order ticks : List ℕ) (q new : ℕ) (held held' : List Held) → Bool → Type 0
Gathering table order ticks q new held held' true = HeldFilled table order ticks q new held held'
Gathering table order ticks q new held held' false = GatherUntouched table order ticks q new held held'
