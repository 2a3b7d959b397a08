-- Computed tests of the record of a floor book: whether a slot is free, whether its carrier stands, 16, 14
-- and 15, and which slot is the lowest free one. What is asked only of a carrier comes behind `then?`, so
-- that it is not computed of a free slot. Assumes nothing.
--     sum             a slot is free exactly if its numbers sum up to 0
--     BadCase, DamagedCase   the cases of a bad carrier and of a damaged book, as a sum
use mathlib.Core.Path.{◌≡◌, ap}
use mathlib.Core.Logic.{◌⊎◌, inl, inr, ◌≢◌}
use mathlib.Core.List.{List}
use Prim.Native.Nat.{ℕ, ◌+◌, ◌≤◌, ◌<◌}
use lib.ListN.{length}
use Rattle.hall.specs.Limits.{node_limit, distance_limit, dwell_limit}
use Rattle.slots.specs.declared.Slot.{Slot}
use Rattle.slots.specs.declared.Book.{Book}
use Rattle.slots.specs.Record.{slot_count, free, slot_at, last_tick, Standing, LowestFree}
use Rattle.slots.specs.Refusals.{clock_limit, start_tick_limit, BadSlot, far_start, far_goal, same_ends}
use Rattle.slots.specs.Refusals.{no_distance, far_distance, late_start, BadHeld, SomeBadSlot}
use Rattle.slots.specs.Refusals.{Damaged, late_clock, long_dwell, bad_slot}
use Rattle.slots.proofs.Slots.{sum_free}
use Rattle.admission.specs.Refusals.{Full}
use Rattle.slots.specs.Questions.{book_question}
use Rattle.hall.proofs.Test.{Test, Some, le?, lt?, eq?, not?, ◌and?◌, ◌or?◌, ◌then?◌, map?, all?, any?}
use Rattle.hall.proofs.StageTests.{TestedAll, once?}

-- ---- one slot

module _ (c : Slot) where
  abbrev pub sum : ℕ
  sum = c.start + c.goal + (c.distance + c.tick)

  abbrev pub free? : Test (c ≡ free)
  free? = map? (sum_free c) (λ e. ap (λ (y : Slot). y.start + y.goal + (y.distance + y.tick)) e) (eq? sum 0)

  abbrev pub BadCase : Type 0
  BadCase =
      (node_limit ≤ c.start) ⊎ ((node_limit ≤ c.goal) ⊎ ((c.start ≡ c.goal)
      ⊎ ((c.distance < 1) ⊎ ((distance_limit < c.distance) ⊎ (start_tick_limit < c.tick)))))

  pub bad_by : BadCase → BadSlot c
  bad_by (inl h) = far_start h
  bad_by (inr (inl h)) = far_goal h
  bad_by (inr (inr (inl h))) = same_ends h
  bad_by (inr (inr (inr (inl h)))) = no_distance h
  bad_by (inr (inr (inr (inr (inl h))))) = far_distance h
  bad_by (inr (inr (inr (inr (inr h))))) = late_start h

  pub by_bad : BadSlot c → BadCase
  by_bad (far_start h) = inl h
  by_bad (far_goal h) = inr (inl h)
  by_bad (same_ends h) = inr (inr (inl h))
  by_bad (no_distance h) = inr (inr (inr (inl h)))
  by_bad (far_distance h) = inr (inr (inr (inr (inl h))))
  by_bad (late_start h) = inr (inr (inr (inr (inr h))))

  abbrev pub bad? : Test (BadSlot c)
  bad? =
      map? bad_by by_bad
      (le? node_limit c.start or? le? node_limit c.goal or? eq? c.start c.goal
      or? lt? c.distance 1 or? lt? distance_limit c.distance or? lt? start_tick_limit c.tick)

  abbrev pub bad-held? : Test (BadHeld c)
  bad-held? = not? free? then? λ k. bad?

-- ---- all slots

module _ (slots : List Slot) where
  abbrev pub some-bad? : Test (SomeBadSlot slots)
  some-bad? =
      map? {A = Some (λ i. BadHeld (slot_at slots i)) (length slots)}
      (λ h. record { place = h.k; held = record { inside = h.below; taken = h.is.0 }; bad = h.is.1 })
      (λ s. record { k = s.place; below = s.held.inside; is = (s.held.taken, s.bad) })
      (any? (λ i. bad-held? (slot_at slots i)) (length slots))

  abbrev pub standing? : (w t i : ℕ) → Test (Standing w t slots i)
  standing? w t i =
      map? {A = ((i < length slots) × (slot_at slots i ≢ free)) × (t ≤ last_tick w (slot_at slots i))}
      (λ h. record { held = record { inside = h.0.0; taken = h.0.1 }; on_time = h.1 })
      (λ s. ((s.held.inside, s.held.taken), s.on_time))
      ((lt? i (length slots) and? not? (free? (slot_at slots i))) and? le? t (last_tick w (slot_at slots i)))

  abbrev pub full? : (w t : ℕ) → Test (Full w t slots)
  full? w t = all? (standing? w t) slot_count

  abbrev pub lowest-free? : (i : ℕ) → Test (LowestFree slots i)
  lowest-free? i =
      map? {A = (i < slot_count) × ((slot_at slots i ≡ free) × ((j : ℕ) → j < i → slot_at slots j ≢ free))}
      (λ h. record { inside = h.0; is_free = h.1.0; lowest = h.1.1 })
      (λ l. (l.inside, (l.is_free, l.lowest)))
      (lt? i slot_count and? free? (slot_at slots i) and? all? (λ j. not? (free? (slot_at slots j))) i)

-- ---- 16 and 14

module _ (b : Book) where
  abbrev pub DamagedCase : Type 0
  DamagedCase = (clock_limit < b.clock) ⊎ ((dwell_limit < b.dwell) ⊎ SomeBadSlot b.slots)

  pub damaged_by : DamagedCase → Damaged b
  damaged_by (inl h) = late_clock h
  damaged_by (inr (inl h)) = long_dwell h
  damaged_by (inr (inr h)) = bad_slot h

  pub by_damaged : Damaged b → DamagedCase
  by_damaged (late_clock h) = inl h
  by_damaged (long_dwell h) = inr (inl h)
  by_damaged (bad_slot h) = inr (inr h)

  abbrev pub damaged? : Test (Damaged b)
  damaged? =
      map? damaged_by by_damaged
      (lt? clock_limit b.clock or? lt? dwell_limit b.dwell or? some-bad? b.slots)

  abbrev pub book? : (t : ℕ) → TestedAll (book_question b t)
  book? t = (once? damaged?, (once? (lt? t b.clock or? lt? clock_limit t), tt))
