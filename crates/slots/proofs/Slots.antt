-- What free means as a test, what forgetting leaves, and where a carrier stands after one is put into a free
-- slot. A slot is forgotten exactly if its carrier's last tick is before now, so a carrier is held after
-- forgetting exactly if it was held before and its last tick is now or later. The new carrier stands in a
-- slot that was free, so every other stays where it was. Assumes nothing.
--     Stands     a carrier stands in some slot of a book
use mathlib.Core.Path.{◌≡◌, refl, sym, ◌∙◌, ap, subst}
use mathlib.Core.Logic.{◌⊎◌, inl, inr, ◌≢◌}
use mathlib.Core.Bool.{Bool, true, false}
use mathlib.Core.List.{List, map}
use Prim.Native.Nat.{ℕ, ◌+◌, ◌≤◌, ◌<◌}
use native.Mathlib.Decide.{ℕ_discrete, dec_lt}
use native.Mathlib.Omega.{arith}
use lib.ListN.{length, get_or, set, length-set, length-map, get_or-map}
use lib.Seq.{get_or-set_same, get_or-set_other}
use borrow.Author.Tests.{lt-ltb, le-ltb, ne_eqb}
use Rattle.hall.proofs.Answers.{true_not_false}
use Rattle.hall.proofs.Lowest.{dec_and}
use Rattle.slots.specs.declared.Slot.{Slot}
use Rattle.slots.specs.Record.{slot_count, free, slot_is_free, slot_at, Held, Standing, last_tick}
use Rattle.slots.specs.Record.{forgotten, forgetting, LowestFree}
use Rattle.slots.specs.Refusals.{BadHeld, SomeBadSlot}

-- ---- free or not

pub is_free_dec : (c : Slot) → Dec (c ≡ free)
is_free_dec c = cases (dec_and (ℕ_discrete c.start 0) (dec_and (ℕ_discrete c.goal 0) (dec_and (ℕ_discrete c.distance 0) (ℕ_discrete c.tick 0))))
  where
    cases : Dec ((c.start ≡ 0) × ((c.goal ≡ 0) × ((c.distance ≡ 0) × (c.tick ≡ 0)))) → Dec (c ≡ free)
    cases (yes h) = yes (λ i. record { start = h.0 i; goal = h.1.0 i; distance = h.1.1.0 i; tick = h.1.1.1 i })
    cases (no k) = no (λ e. k (ap (λ (y : Slot). y.start) e, (ap (λ (y : Slot). y.goal) e, (ap (λ (y : Slot). y.distance) e, ap (λ (y : Slot). y.tick) e))))

pub free_test : (c : Slot) → c ≡ free → slot_is_free c ≡ true
unfolding slot_is_free
free_test c e = ap slot_is_free e

-- numbers that sum up to 0 are 0
pub sum_free : (c : Slot) → c.start + c.goal + (c.distance + c.tick) ≡ 0 → c ≡ free
sum_free c e = λ i. record { start = a i; goal = b i; distance = d i; tick = t i }
  where
    a : c.start ≡ 0
    a = omega arith

    b : c.goal ≡ 0
    b = omega arith

    d : c.distance ≡ 0
    d = omega arith

    t : c.tick ≡ 0
    t = omega arith

pub taken_test : (c : Slot) → c ≢ free → slot_is_free c ≡ false
unfolding slot_is_free
taken_test c k = ne_eqb (c.start + c.goal + (c.distance + c.tick)) 0 (λ e. k (sum_free c e))

pub test_free : (c : Slot) → slot_is_free c ≡ true → c ≡ free
test_free c e = cases (is_free_dec c)
  where
    cases : Dec (c ≡ free) → c ≡ free
    cases (yes h) = h
    cases (no k) = absurd (true_not_false (sym e ∙ taken_test c k))

pub test_taken : (c : Slot) → slot_is_free c ≡ false → c ≢ free
test_taken c e h = true_not_false (sym (free_test c h) ∙ e)

-- what an answer of `is_free` tells
pub free_by : (c : Slot) {r : Bool} → r ≡ slot_is_free c → r ≡ true → c ≡ free
free_by c e h = test_free c (sym e ∙ h)

pub taken_by : (c : Slot) {r : Bool} → r ≡ slot_is_free c → r ≡ false → c ≢ free
taken_by c e h = test_taken c (sym e ∙ h)

-- a carrier with a distance of 1 at least is no free slot
pub carrier_taken : (c : Slot) → 1 ≤ c.distance → c ≢ free
carrier_taken c h e = let z : c.distance ≡ 0 = ap (λ (y : Slot). y.distance) e in absurd (let x : ⊥ = omega arith in x)

-- ---- a bad carrier, somewhere or nowhere

module _ (slots : List Slot) (size : length slots ≡ slot_count) where
  pub bad_somewhere : (i : ℕ) → i < slot_count → BadHeld (slot_at slots i) → SomeBadSlot slots
  bad_somewhere i l h = record { place = i; held = record { inside = omega arith; taken = h.0 }; bad = h.1 }

  pub bad_nowhere : ((i : ℕ) → i < slot_count → ¬ BadHeld (slot_at slots i)) → ¬ SomeBadSlot slots
  bad_nowhere none b = none b.place (omega (arith, b.held.inside)) (b.held.taken, b.bad)

-- ---- forgetting

pub record Stands (slots : List Slot) (c : Slot) : Type 0 where
  pub place : ℕ
  pub held : Held slots place
  pub is : slot_at slots place ≡ c

module _ (w now : ℕ) where
  pub forgotten_past : (c : Slot) → last_tick w c < now → forgotten w now c ≡ free
  unfolding forgotten
  forgotten_past c h = rw (lt-ltb (last_tick w c) now h) refl

  pub forgotten_kept : (c : Slot) → now ≤ last_tick w c → forgotten w now c ≡ c
  unfolding forgotten
  forgotten_kept c h = rw (le-ltb (last_tick w c) now h) refl

  forgotten_free : forgotten w now free ≡ free
  forgotten_free = cases (dec_lt (last_tick w free) now)
    where
      cases : Dec (last_tick w free < now) → forgotten w now free ≡ free
      cases (yes l) = forgotten_past free l
      cases (no l) = forgotten_kept free (omega arith)

  module _ (slots : List Slot) where
    pub forgetting_length : length (forgetting w now slots) ≡ length slots
    unfolding forgetting
    forgetting_length = length-map slots (forgotten w now)

    pub forgetting_at : (i : ℕ) → slot_at (forgetting w now slots) i ≡ forgotten w now (slot_at slots i)
    unfolding forgetting
    forgetting_at i = ap (get_or (map (forgotten w now) slots) i) (sym forgotten_free) ∙ get_or-map (forgotten w now) slots i free

    -- a slot after forgetting is as it was, or free
    pub kept_or_free : (i : ℕ) → (slot_at (forgetting w now slots) i ≡ slot_at slots i) ⊎ (slot_at (forgetting w now slots) i ≡ free)
    kept_or_free i = cases (dec_lt (last_tick w (slot_at slots i)) now)
      where
        cases : Dec (last_tick w (slot_at slots i) < now) → (slot_at (forgetting w now slots) i ≡ slot_at slots i) ⊎ (slot_at (forgetting w now slots) i ≡ free)
        cases (yes l) = inr (forgetting_at i ∙ forgotten_past (slot_at slots i) l)
        cases (no l) = inl (forgetting_at i ∙ forgotten_kept (slot_at slots i) (omega arith))

    -- a carrier that is held after forgetting was held, and its last tick is now or later
    pub still_held : (i : ℕ) → Held (forgetting w now slots) i → Standing w now slots i × (slot_at (forgetting w now slots) i ≡ slot_at slots i)
    still_held i h = cases (dec_lt (last_tick w (slot_at slots i)) now)
      where
        cases : Dec (last_tick w (slot_at slots i) < now) → Standing w now slots i × (slot_at (forgetting w now slots) i ≡ slot_at slots i)
        cases (yes l) = absurd (h.taken (forgetting_at i ∙ forgotten_past (slot_at slots i) l))
        cases (no l) =
            let same : slot_at (forgetting w now slots) i ≡ slot_at slots i = forgetting_at i ∙ forgotten_kept (slot_at slots i) (omega arith) in
            (record { held = record { inside = omega (arith, h.inside, forgetting_length); taken = λ e. h.taken (same ∙ e) }; on_time = omega arith }, same)

    -- and the other way round
    pub held_still : (i : ℕ) → Standing w now slots i → Held (forgetting w now slots) i × (slot_at (forgetting w now slots) i ≡ slot_at slots i)
    held_still i s =
        let same : slot_at (forgetting w now slots) i ≡ slot_at slots i = forgetting_at i ∙ forgotten_kept (slot_at slots i) s.on_time in
        (record { inside = omega (arith, s.held.inside, forgetting_length); taken = λ e. s.held.taken (sym same ∙ e) }, same)

-- ---- a carrier is put into a free slot

module _ (slots : List Slot) (size : length slots ≡ slot_count) (i : ℕ) (low : LowestFree slots i) (c : Slot) (taken : c ≢ free) where
  inside : i < length slots
  inside = omega (arith, low.inside)

  pub new_stands : Stands (set slots i c) c
  new_stands =
      let same : slot_at (set slots i c) i ≡ c = get_or-set_same slots i c free inside in
      record { place = i; held = record { inside = omega (arith, inside, length-set slots i c); taken = λ e. taken (sym same ∙ e) }; is = same }

  pub others_stand : (j : ℕ) → Held slots j → Stands (set slots i c) (slot_at slots j)
  others_stand j h =
      let other : j ≢ i = λ e. h.taken (subst (λ (k : ℕ). slot_at slots k ≡ free) (sym e) low.is_free) in
      let same : slot_at (set slots i c) j ≡ slot_at slots j = get_or-set_other slots i j c free other in
      record { place = j; held = record { inside = omega (arith, h.inside, length-set slots i c); taken = λ e. h.taken (sym same ∙ e) }; is = same }

  -- whoever is held then is the new carrier, or was held
  pub new_or_held : (j : ℕ) → Held (set slots i c) j → (slot_at (set slots i c) j ≡ c) ⊎ (Held slots j × (slot_at (set slots i c) j ≡ slot_at slots j))
  new_or_held j h = cases (ℕ_discrete j i)
    where
      cases : Dec (j ≡ i) → (slot_at (set slots i c) j ≡ c) ⊎ (Held slots j × (slot_at (set slots i c) j ≡ slot_at slots j))
      cases (yes e) = inl (subst (λ (k : ℕ). slot_at (set slots i c) k ≡ c) (sym e) (get_or-set_same slots i c free inside))
      cases (no d) =
          let same : slot_at (set slots i c) j ≡ slot_at slots j = get_or-set_other slots i j c free d in
          inr (record { inside = omega (arith, h.inside, length-set slots i c); taken = λ e. h.taken (same ∙ e) }, same)
