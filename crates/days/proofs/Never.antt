-- On a day neither 16 nor 17 is ever given. The empty book is sound, and an accepted admission leaves a sound
-- one (`admitted_sound`, crate `admission`). Whoever is held was admitted on the same network, so its distance
-- there is the one held. 16 and 17 are listed once each in the question of an admission. Assumes nothing.
--     day_sound     the book of a day is not damaged
--     day_fresh     no slot of it is stale, at any tick
use mathlib.Core.Path.{◌≡◌, refl, subst}
use mathlib.Core.List.{List, [], ◌∷◌, ◌++◌}
use Prim.Native.Nat.{ℕ, ◌≤◌}
use native.Mathlib.Omega.{arith}
use lib.ListN.{length-replicate, get_or-replicate}
use Rattle.hall.specs.Limits.{dwell_limit}
use Rattle.hall.specs.Floor.{Dist, Network, floor}
use Rattle.hall.specs.Stages.{Question, FirstOf, here, later, FirstAt, FirstStage, First, None}
use Rattle.hall.specs.Questions.{move_question}
use Rattle.hall.proofs.Compose.{first_split}
use Rattle.hall.proofs.Left.{first_among}
use Rattle.slots.specs.declared.Slot.{Slot}
use Rattle.slots.specs.declared.Book.{Book}
use Rattle.slots.specs.Record.{slot_count, free, slot_at, Standing, empty_book}
use Rattle.slots.specs.Refusals.{Damaged, late_clock, long_dwell, bad_slot}
use Rattle.slots.specs.Questions.{damaged_book, off_time, book_question}
use Rattle.admission.specs.Refusals.{Stale}
use Rattle.admission.specs.Questions.{stale_slots, full_book, call_question, admission_question}
use Rattle.admission.proofs.StaleSlots.{true_fresh}
use Rattle.admission.proofs.SoundAfter.{admitted_sound}
use Rattle.days.specs.Day.{Call, Day, begins, admits, refuses}
use Rattle.days.proofs.Days.{Remembers, remembers}

empty_sound : (w : ℕ) → w ≤ dwell_limit → ¬ Damaged (empty_book w)
empty_sound w h (late_clock l) = omega arith
empty_sound w h (long_dwell l) = omega arith
empty_sound w h (bad_slot b) =
    b.held.taken
    (get_or-replicate slot_count b.place free free (omega (arith, b.held.inside, length-replicate slot_count free)))

module _ (N : Network) (w : ℕ) where
  pub day_sound : w ≤ dwell_limit → {calls : List Call} {ever : List Slot} {b : Book} → Day N w calls ever b
      → ¬ Damaged b
  day_sound h begins = empty_sound w h
  day_sound h (admits d call x left a) = admitted_sound N (remembers N w d).size a
  day_sound h (refuses d call n p left a) = rw a.outcome (day_sound h d)

  pub day_fresh : {calls : List Call} {ever : List Slot} {b : Book} → Day N w calls ever b
      → (t i : ℕ) → ¬ Stale N w t b.slots i
  day_fresh {ever = ever} {b = b} day t i = true_fresh N w t b.slots i true_now
    where
      known : Remembers N w ever b
      known = remembers N w day

      true_now : Standing w t b.slots i
          → Dist (floor N) (slot_at b.slots i).start (slot_at b.slots i).goal (slot_at b.slots i).distance
      true_now s =
          let e = known.admitted i s.held in
          subst (λ (c : Slot). Dist (floor N) c.start c.goal c.distance) e.2
          (known.true_distance e.0 e.1)

  module _ {calls : List Call} {ever : List Slot} {b : Book} (day : Day N w calls ever b) (t s g p : ℕ) where
    -- what is asked behind 16, and before 17
    abbrev behind : Question
    behind = off_time b t ∷ ((move_question N s g ++ (stale_slots N b.dwell t b.slots ∷ [])) ++ (full_book b t ∷ []))

    abbrev before : Question
    before = book_question b t ++ move_question N s g

    pub no_16 : w ≤ dwell_limit → ¬ First (admission_question N b t s g) 16 p
    no_16 h f = cases (first_split (damaged_book b ∷ []) behind f)
      where
        damaged : FirstAt (damaged_book b) 16 p → ⊥
        damaged (here k) = day_sound h day k.1.1
        damaged (later n k) = k

        in_book : FirstStage (damaged_book b ∷ []) 16 p → ⊥
        in_book (here k) = damaged k.holds
        in_book (later n k) = k

        cases : FirstOf (First (damaged_book b ∷ []) 16 p) (None (damaged_book b ∷ [])) (First behind 16 p) → ⊥
        cases (here k) = in_book k.in_turn
        cases (later n k) = first_among (λ (n : ℕ). ¬ (n ≡ 16)) {q = behind} (omega arith) k refl

    pub no_17 : ¬ First (admission_question N b t s g) 17 p
    no_17 f = cases (first_split (call_question N b t s g) (full_book b t ∷ []) f)
      where
        stale : FirstAt (stale_slots N b.dwell t b.slots) 17 p → ⊥
        stale (here k) = day_fresh day t p (rw (remembers N w day).dwell_is at k.1.1)
        stale (later n k) = k

        in_slots : FirstStage (stale_slots N b.dwell t b.slots ∷ []) 17 p → ⊥
        in_slots (here k) = stale k.holds
        in_slots (later n k) = k

        in_call : FirstOf (First before 17 p) (None before) (First (stale_slots N b.dwell t b.slots ∷ []) 17 p)
            → ⊥
        in_call (here k) = first_among (λ (n : ℕ). ¬ (n ≡ 17)) {q = before} (omega arith) k refl
        in_call (later n k) = in_slots k.in_turn

        cases : FirstOf (First (call_question N b t s g) 17 p) (None (call_question N b t s g)) (First (full_book b t ∷ []) 17 p)
            → ⊥
        cases (here k) = in_call (first_split before (stale_slots N b.dwell t b.slots ∷ []) k)
        cases (later n k) = first_among (λ (n : ℕ). ¬ (n ≡ 17)) {q = full_book b t ∷ []} (omega arith) k refl
