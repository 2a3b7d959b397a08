-- When the faults of a call that concern the carriers held hold, exactly (rules 8.17 and 8.15). Those of the
-- record and of the clock value, 16 and 14, are in the crate `slots`.
--     Stale           17, at a slot and a clock value t: its carrier's last tick is t or later, and on the
--                     network one of its ends is closed or no node, or they are another distance apart than
--                     the slot says. Where no walk joins them there is no distance, so 17 holds
--     Full            15: every slot holds a carrier whose last tick is now or later
use Rattle.std.specs.Prelude.{List, ℕ, ◌<◌}
use Rattle.hall.specs.Floor.{Dist, Network, Open, floor}
use Rattle.slots.specs.declared.Slot.{Slot}
use Rattle.slots.specs.Record.{slot_count, slot_at, Standing}

pub data Stale (N : Network) (w t : ℕ) (slots : List Slot) (i : ℕ) : Type 0 where
  start_shut : Standing w t slots i → ¬ Open N (slot_at slots i).start → Stale N w t slots i
  goal_shut : Standing w t slots i → ¬ Open N (slot_at slots i).goal → Stale N w t slots i
  other_distance : Standing w t slots i
      → ¬ Dist (floor N) (slot_at slots i).start (slot_at slots i).goal (slot_at slots i).distance
      → Stale N w t slots i

abbrev pub Full : (w t : ℕ) → List Slot → Type 0
Full w t slots = (i : ℕ) → i < slot_count → Standing w t slots i
