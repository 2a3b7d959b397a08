-- What an accepted admission settles for the next call at the same clock on the same network. It leaves a
-- sound book, whatever sound book it was called with: the new carrier's start tick is at most 163,648 ticks
-- after now, so below 4,000,200,000, and whoever is held beside it was sound before. The new carrier has its
-- true distance, and of the others none was stale. So 16, 14, the network's checks and 17 pass again. Assumes
-- nothing.
--     admitted_sound   the book that is left is not damaged (rule 8.16)
--     settled_then     all that is asked of the book, the clock and the network passes
--     settled_judged   where it does, what a check answers about the move is what it answers about the call
use mathlib.Core.Path.{◌≡◌, refl, ◌∙◌}
use mathlib.Core.Logic.{◌⊎◌, inl, inr}
use mathlib.Core.List.{List, [], ◌∷◌, ◌++◌}
use Prim.Native.Nat.{ℕ, ◌≤◌}
use native.Mathlib.Nat.{le_refl}
use native.Mathlib.Omega.{arith}
use lib.ListN.{length, set}
use Rattle.hall.specs.declared.Fault.TheVariants.{Unreachable}
use Rattle.std.specs.Prelude.{Result, Ok, Err}
use Rattle.hall.specs.declared.Refusal.{Refusal}
use Rattle.hall.specs.Floor.{Dist, NoWalk, Network, floor}
use Rattle.hall.specs.Stages.{asked, only_at}
use Rattle.hall.specs.Questions.{ends, network_question, move_ends, move_question}
use Rattle.hall.specs.Said.{accepted, Judged}
use Rattle.hall.proofs.Compose.{none_at_all, none_split, none_append, first_before, judged_after}
use Rattle.hall.proofs.Places.{asked_clear, loop_ends}
use Rattle.slots.specs.declared.Slot.{Slot}
use Rattle.slots.specs.declared.Book.{Book}
use Rattle.admission.specs.declared.Entry.{Entry}
use Rattle.slots.specs.Record.{slot_count, slot_at, Held, forgetting, book_with}
use Rattle.slots.specs.Refusals.{BadSlot, far_start, far_goal, same_ends, no_distance}
use Rattle.slots.specs.Refusals.{far_distance, late_start, SomeBadSlot, Damaged, late_clock, long_dwell}
use Rattle.slots.specs.Refusals.{bad_slot, OffTime}
use Rattle.slots.specs.Questions.{book_question}
use Rattle.admission.specs.Questions.{stale_checks, stale_slots, call_question}
use Rattle.admission.specs.Admission.{carrier_of, Admission}
use Rattle.admission.specs.Steps.{Settled}
use Rattle.slots.proofs.Slots.{forgetting_length, still_held, new_or_held}
use Rattle.network.proofs.SoundMove.{MoveSound}
use Rattle.admission.proofs.StaleSlots.{true_fresh}
use Rattle.admission.proofs.SoundCall.{book_sound, not_beyond, move_clear, call_tells}
use Rattle.admission.proofs.Admitting.{true_held, dwell_small}
use Rattle.admission.proofs.Took.{apart_one, Took, took}
use Rattle.admission.proofs.Pairs.{distance_few, tick_near}

module _ (N : Network) (w : ℕ) {b left : Book} {now s g x d : ℕ} (same : b.dwell ≡ w) (size : length b.slots ≡ slot_count) (a : Took N w b now s g x d left) where
  abbrev kept : List Slot
  kept = forgetting w now b.slots

  abbrev new : Slot
  new = carrier_of s g d x

  new_sound : ¬ BadSlot new
  new_sound bad = cases (call_tells N b now s g a.sound) bad
    where
      cases : MoveSound N s g → BadSlot new → ⊥
      cases m (far_start l) = omega (arith, m.few_nodes, m.start_open.numbered)
      cases m (far_goal l) = omega (arith, m.few_nodes, m.goal_open.numbered)
      cases m (same_ends e) = m.ends_differ e
      cases m (no_distance l) = omega (arith, apart_one a.own m.ends_differ)
      cases m (far_distance l) = omega (arith, distance_few N m.few_nodes a.own)
      cases m (late_start l) = omega (arith, tick_near N w same size a, not_beyond N b now s g a.sound)

  slots_sound : ¬ SomeBadSlot (set kept a.slot new)
  slots_sound bad = cases (new_or_held kept (forgetting_length w now b.slots ∙ size) a.slot a.takes new a.taken bad.place bad.held)
    where
      cases : (slot_at (set kept a.slot new) bad.place ≡ new) ⊎ (Held kept bad.place × (slot_at (set kept a.slot new) bad.place ≡ slot_at kept bad.place)) → ⊥
      cases (inl e) = new_sound (rw e at bad.bad)
      cases (inr k) =
          let was = still_held w now b.slots bad.place k.0 in
          book_sound N b now s g a.sound (bad_slot (record { place = bad.place; held = was.0.held; bad = rw (k.1 ∙ was.1) at bad.bad }))

  pub took_sound : ¬ Damaged left
  took_sound = rw a.left_is book_left
    where
      book_left : ¬ Damaged (book_with now w (set kept a.slot new))
      book_left (late_clock l) = omega (arith, not_beyond N b now s g a.sound)
      book_left (long_dwell l) = let h : w ≤ 255 = rw same at (dwell_small b size (book_sound N b now s g a.sound)) in omega arith
      book_left (bad_slot k) = slots_sound k

  -- ---- whoever is held then has its true distance

  true_then : (i : ℕ) → Held (set kept a.slot new) i → Dist (floor N) (slot_at (set kept a.slot new) i).start (slot_at (set kept a.slot new) i).goal (slot_at (set kept a.slot new) i).distance
  true_then i h = cases (new_or_held kept (forgetting_length w now b.slots ∙ size) a.slot a.takes new a.taken i h)
    where
      was_true : (j : ℕ) → Held kept j → Dist (floor N) (slot_at kept j).start (slot_at kept j).goal (slot_at kept j).distance
      was_true = rw same at (true_held N b now s g size a.sound)

      cases : (slot_at (set kept a.slot new) i ≡ new) ⊎ (Held kept i × (slot_at (set kept a.slot new) i ≡ slot_at kept i))
          → Dist (floor N) (slot_at (set kept a.slot new) i).start (slot_at (set kept a.slot new) i).goal (slot_at (set kept a.slot new) i).distance
      cases (inl e) = rw e a.own
      cases (inr k) = rw k.1 (was_true i k.0)

  pub took_settled : Settled N left now
  took_settled = record {
    of_book = asked_clear took_sound (asked_clear (rw a.left_is not_off) none_at_all);
    of_network = (none_split (network_question N) (only_at 0 (ends N.nodes N.closed (λ i. s) (λ i. g)))
        (none_split (move_ends N s g) (asked Unreachable 0 (NoWalk (floor N) s g) ∷ []) (move_clear N b now s g a.sound)).0).0;
    of_slots = rw a.left_is (loop_ends {s = stale_checks N w now (set kept a.slot new)} (record { clear = λ i l. (true_fresh N w now (set kept a.slot new) i (λ h. true_then i h.held), tt) }) (le_refl slot_count));
  }
    where
      not_off : ¬ OffTime (book_with now w (set kept a.slot new)) now
      not_off (inl l) = omega arith
      not_off (inr l) = omega (arith, not_beyond N b now s g a.sound)

-- whatever sound book an accepted call came with
module _ (N : Network) {b left : Book} {now s g : ℕ} {e : Entry} (size : length b.slots ≡ slot_count) (a : Admission N b now s g (accepted e) left) where
  pub admitted_sound : ¬ Damaged left
  admitted_sound = took_sound N b.dwell refl size (took N b.dwell refl a)

  pub settled_then : Settled N left now
  settled_then = took_settled N b.dwell refl size (took N b.dwell refl a)

-- the rest of the question lies before the move and behind it, and passes
pub settled_judged : (N : Network) (b : Book) (t s g : ℕ) → Settled N b t → (r : Result Unit Refusal) → Judged (move_question N s g) r → Judged (call_question N b t s g) r
settled_judged N b t s g known r h = judged_after (book_question b t) (move_question N s g ++ (stale_slots N b.dwell t b.slots ∷ [])) known.of_book r (behind r h)
  where
    behind : (r : Result Unit Refusal) → Judged (move_question N s g) r → Judged (move_question N s g ++ (stale_slots N b.dwell t b.slots ∷ [])) r
    behind (Ok u) k = none_append k known.of_slots
    behind (Err f) k = first_before (stale_slots N b.dwell t b.slots ∷ []) k
