-- When a book is damaged, and when a clock value is refused, exactly (rules 8.16 and 8.14).
--     clock_limit, start_tick_limit    no clock value above 4,000,000,000 is served, and no start tick held is
--                     above 4,000,200,000
--     BadSlot         numbers that no admission writes (`admitted_sound` of crate `admission`). A start or a
--                     goal above 1,023 is no node of any hall
--     BadHeld         a slot holds a carrier with such numbers
--     SomeBadSlot     some slot does
--     Damaged         16: of the clock, the dwell or a carrier held
--     OffTime         14, of a clock value t: before the book's clock, or above the limit
use Rattle.std.specs.Prelude.{◌≡◌, ◌⊎◌, ◌≢◌, List, ℕ, ◌≤◌, ◌<◌}
use Rattle.hall.specs.Limits.{node_limit, distance_limit, dwell_limit}
use Rattle.slots.specs.declared.Slot.{Slot}
use Rattle.slots.specs.declared.Book.{Book}
use Rattle.slots.specs.Record.{free, slot_at, Held}

abbrev pub clock_limit : ℕ
clock_limit = 4000000000

abbrev pub start_tick_limit : ℕ
start_tick_limit = 4000200000

pub data BadSlot (c : Slot) : Type 0 where
  far_start : node_limit ≤ c.start → BadSlot c
  far_goal : node_limit ≤ c.goal → BadSlot c
  same_ends : c.start ≡ c.goal → BadSlot c
  no_distance : c.distance < 1 → BadSlot c
  far_distance : distance_limit < c.distance → BadSlot c
  late_start : start_tick_limit < c.tick → BadSlot c

abbrev pub BadHeld : Slot → Type 0
BadHeld c = (c ≢ free) × BadSlot c

pub record SomeBadSlot (slots : List Slot) : Type 0 where
  pub place : ℕ
  pub held : Held slots place
  pub bad : BadSlot (slot_at slots place)

pub data Damaged (b : Book) : Type 0 where
  late_clock : clock_limit < b.clock → Damaged b
  long_dwell : dwell_limit < b.dwell → Damaged b
  bad_slot : SomeBadSlot b.slots → Damaged b

abbrev pub OffTime : Book → ℕ → Type 0
OffTime b t = (t < b.clock) ⊎ (clock_limit < t)
