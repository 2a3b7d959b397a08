-- The record of the floor book (rules 13.1 to 13.6): its slots, who is held in them, who is not yet past
-- at a tick, and forgetting. A carrier that starts later than a tick is not past there either.
--     slot_count       the book has 64 slots
--     free            a slot that is all zero; nothing else is free. `slot_is_free` is the same as a test
--     slot_at          the slot at a place; past the last one it is free
--     Held            a carrier is held in the slot at a place
--     goal_tick        a carrier's goal tick: its start tick and its distance (rule 5.4)
--     last_tick w      the last tick at which it is on the floor: its goal tick and the dwell (rule 5.9)
--     StandsAt w t    a slot holds a carrier whose last tick is t or later
--     Standing w t    so does the slot at a place
--     book_with        the book with a clock, a dwell and slots
--     empty_book w     the book as it starts: clock 0, all slots free, the dwell w (rule 13.3)
--     freed           free or as it was, by a test
--     forgotten       a slot after forgetting: free if its carrier's last tick is before now (rule 13.5)
--     forgetting      the same of every slot
--     book_at         the book at a clock value, where whoever is past is forgotten
--     LowestFree      the lowest free slot (rule 13.6)
--     AsFree          the number of the lowest free slot, if some slot is free
use Rattle.std.specs.Prelude.{◌≡◌, ◌≢◌, Bool, true, false, Option, Some, None, List, map, ℕ, ◌+◌, ◌≤◌, ◌<◌, ltb, eqb, length, get_or, replicate}
use Rattle.slots.specs.declared.Slot.{Slot}
use Rattle.slots.specs.declared.Book.{Book}

abbrev pub slot_count : ℕ
slot_count = 64

abbrev pub free : Slot
free = record { start = 0; goal = 0; distance = 0; tick = 0 }

unfoldable pub slot_is_free : Slot → Bool
slot_is_free c = eqb (c.start + c.goal + (c.distance + c.tick)) 0

abbrev pub slot_at : List Slot → ℕ → Slot
slot_at slots i = get_or slots i free

pub record Held (slots : List Slot) (i : ℕ) : Type 0 where
  pub inside : i < length slots
  pub taken : slot_at slots i ≢ free

-- ---- ticks

abbrev pub goal_tick : Slot → ℕ
goal_tick c = c.tick + c.distance

abbrev pub last_tick : (w : ℕ) → Slot → ℕ
last_tick w c = goal_tick c + w

pub record StandsAt (w t : ℕ) (c : Slot) : Type 0 where
  pub taken : c ≢ free
  pub on_time : t ≤ last_tick w c

pub record Standing (w t : ℕ) (slots : List Slot) (i : ℕ) : Type 0 where
  pub held : Held slots i
  pub on_time : t ≤ last_tick w (slot_at slots i)

-- ---- the book

abbrev pub book_with : (clock dwell : ℕ) → List Slot → Book
book_with clock dwell slots = record { clock = clock; dwell = dwell; slots = slots }

abbrev pub empty_book : ℕ → Book
empty_book w = book_with 0 w (replicate slot_count free)

-- ---- forgetting

abbrev pub freed : Bool → Slot → Slot
freed true c = free
freed false c = c

unfoldable pub forgotten : (w now : ℕ) → Slot → Slot
forgotten w now c = freed (ltb (last_tick w c) now) c

unfoldable pub forgetting : (w now : ℕ) → List Slot → List Slot
forgetting w now slots = map (forgotten w now) slots

abbrev pub book_at : (now : ℕ) → Book → Book
book_at now b = book_with now b.dwell (forgetting b.dwell now b.slots)

-- ---- the slot that is taken

pub record LowestFree (slots : List Slot) (i : ℕ) : Type 0 where
  pub inside : i < slot_count
  pub is_free : slot_at slots i ≡ free
  pub lowest : (j : ℕ) → j < i → slot_at slots j ≢ free

pub data AsFree (slots : List Slot) : Option ℕ → Type 0 where
  found : {i : ℕ} → LowestFree slots i → AsFree slots (Some i)
  none_free : ((j : ℕ) → j < slot_count → slot_at slots j ≢ free) → AsFree slots None
