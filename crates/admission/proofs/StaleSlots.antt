-- 17 of one slot by a row of distances from its start, and slot by slot. A distance leads between open nodes,
-- so a carrier whose start or goal is none has no distance, and 17 is that the distance held is none. The row
-- tells which number stands for the distance; where it is the one held, at most 1,023, that is the distance.
-- The slots are sieved: the lowest standing slot with a start judges all that stand and have it, by one row.
-- Assumes nothing.
--     stale_here, stale_back   17 at a slot is that of the slot itself
--     true_fresh               a carrier with its true distance is not stale
--     row_stale, stale_row     by the row of a carrier's start, 17 is that the row does not tell its distance
--     sieve_passed, sieve_seen, sieve_judged   one slot more: it does not stand, its start was seen, or is
--                                              judged
--     sieved_first, sieved_none                after the last slot the sieve has the first, or there is none
use mathlib.Core.Path.{◌≡◌, refl, sym, ◌∙◌, subst}
use mathlib.Core.Logic.{◌↔◌}
use mathlib.Core.Bool.{Bool, true, false}
use mathlib.Core.List.{List, [], ◌∷◌}
use Prim.Native.Nat.{ℕ, ◌+◌, ◌≤◌, ◌<◌}
use native.Mathlib.Nat.{not-suc-le-zero}
use native.Mathlib.Decide.{dec_lt}
use native.Mathlib.Omega.{arith}
use lib.ListN.{length, get_or, take}
use borrow.Author.Count.{below_more}
use Rattle.std.specs.Prelude.{Option, Some, unwrap_or}
use Rattle.std.specs.Bool.{then_some}
use Rattle.std.proofs.lemmas.List.{get_or-take, length-take}
use Rattle.hall.specs.Limits.{node_limit, distance_limit}
use Rattle.hall.specs.Floor.{Dist, DistanceIs, no_walk, distance, Network, floor}
use Rattle.hall.specs.Rule.{Answers}
use Rattle.hall.specs.Stages.{here, FirstIn, None}
use Rattle.hall.proofs.Answers.{true_not_false}
use Rattle.hall.proofs.Walks.{begins_on_node, ends_on_node, dist_unique}
use Rattle.hall.proofs.Places.{Passed, each_first, loop_ends}
use Rattle.walk.specs.Row.{Rowed, filled, refused}
use Rattle.slots.specs.declared.Slot.{Slot}
use Rattle.slots.specs.Record.{slot_count, free, slot_at, Standing, StandsAt}
use Rattle.slots.specs.Refusals.{BadSlot, SomeBadSlot, far_distance}
use Rattle.admission.specs.Refusals.{Stale, start_shut, goal_shut, other_distance}
use Rattle.admission.specs.Questions.{stale_checks, stale_slots}
use Rattle.admission.specs.Steps.{StaleAt, StandsFrom, StandsBefore, OffRow, no_row, no_goal, other_number}
use Rattle.admission.specs.Steps.{StaleBy, LowestBy, stale, none_stale, Sieved}
use Rattle.slots.proofs.Slots.{is_free_dec}

-- ---- one slot

-- whether a slot with this start stands is whether it stands
pub stands_there : (w t start : ℕ) (c : Slot) (r : Bool) → c.start ≡ start → Answers r (StandsAt w t c) → Answers r (StandsFrom w t start c)
stands_there w t start c true e h = record { stands = h; from_there = e }
stands_there w t start c false e k = λ h. k h.stands

-- where the row tells the distance held, it is not stale
pub on_row : {start w t : ℕ} {row : List ℕ} {c : Slot} → c.goal < length row → get_or row c.goal 0 ≡ c.distance → ¬ StaleBy (Some row) start w t c
on_row {row = row} {c = c} l e s = off s.off
  where
    off : OffRow c (Some row) → ⊥
    off (no_goal g) = omega arith
    off (other_number k) = k e

-- the row as it is told, with a place for each node, where the walk was served
abbrev pub told : (nodes : ℕ) → Bool → List ℕ → Option (List ℕ)
told nodes r left = then_some r (take nodes left)

module _ (N : Network) (c : Slot) where
  pub goal_off : N.nodes ≤ c.goal → ¬ Dist (floor N) c.start c.goal c.distance
  goal_off h d = let o = (ends_on_node d.walk).numbered in omega arith

  pub start_off : {row left : List ℕ} {r : Bool} → N.nodes ≤ node_limit → length row ≡ node_limit → Rowed N c.start row left r → r ≡ false
      → ¬ Dist (floor N) c.start c.goal c.distance
  start_off {row} few size (filled e s f) f' d = true_not_false (sym e ∙ f')
  start_off {row} few size (refused e k same) f' d = k (record { few = few; numbered = (begins_on_node d.walk).numbered; wide = omega arith })

  -- the number of the row is the one held exactly if that is the distance
  pub row_tells : {x : ℕ} → DistanceIs (floor N) c.start c.goal x → c.distance ≤ distance_limit
      → (x ≡ c.distance) ↔ Dist (floor N) c.start c.goal c.distance
  row_tells {x} h small = (to h, back h)
    where
      to : DistanceIs (floor N) c.start c.goal x → x ≡ c.distance → Dist (floor N) c.start c.goal c.distance
      to (no_walk e none) same = absurd (let z : ⊥ = omega arith in z)
      to (distance s d) same = subst (Dist (floor N) c.start c.goal) same d

      back : DistanceIs (floor N) c.start c.goal x → Dist (floor N) c.start c.goal c.distance → x ≡ c.distance
      back (no_walk e none) d = absurd (none c.distance d.walk)
      back (distance s k) d = dist_unique k d

  -- by the row of its start
  module _ (w t : ℕ) {row left : List ℕ} {r : Bool} (few : N.nodes ≤ node_limit) (size : length row ≡ node_limit) (rowed : Rowed N c.start row left r)
      (small : c.distance ≤ distance_limit) where
    pub row_stale : {start : ℕ} → StaleBy (told N.nodes r left) start w t c → StaleAt N w t c
    row_stale s = record { stands = s.there.stands; other = by r rowed s.off }
      where
        by : (r : Bool) → Rowed N c.start row left r → OffRow c (told N.nodes r left) → ¬ Dist (floor N) c.start c.goal c.distance
        by false was off d = start_off few size was refl d
        by true (refused e n same) off d = absurd (true_not_false e)
        by true (filled e h f) (no_goal l) d = goal_off (omega (arith, length-take N.nodes left, f.size)) d
        by true (filled e h f) (other_number k) d =
            let inside = (ends_on_node d.walk).numbered in
            k (get_or-take N.nodes left c.goal 0 inside ∙ (row_tells (f.holds c.goal inside) small).1 d)

    pub stale_row : StaleAt N w t c → StaleBy (told N.nodes r left) c.start w t c
    stale_row s = record { there = record { stands = s.stands; from_there = refl }; off = by r rowed (dec_lt c.goal N.nodes) }
      where
        by : (r : Bool) → Rowed N c.start row left r → Dec (c.goal < N.nodes) → OffRow c (told N.nodes r left)
        by false was l = no_row
        by true (refused e n same) l = absurd (true_not_false e)
        by true (filled e h f) (no l) = no_goal (omega (arith, length-take N.nodes left))
        by true (filled e h f) (yes l) =
            other_number (λ e. s.other ((row_tells (f.holds c.goal l) small).0 (sym (get_or-take N.nodes left c.goal 0 l) ∙ e)))

-- ---- slot by slot

-- a carrier that has its true distance wherever it stands is not stale
pub true_fresh : (N : Network) (w t : ℕ) (slots : List Slot) (i : ℕ) → (Standing w t slots i → Dist (floor N) (slot_at slots i).start (slot_at slots i).goal (slot_at slots i).distance)
    → ¬ Stale N w t slots i
true_fresh N w t slots i d (start_shut s k) = k (begins_on_node (d s).walk)
true_fresh N w t slots i d (goal_shut s k) = k (ends_on_node (d s).walk)
true_fresh N w t slots i d (other_distance s k) = k (d s)

module _ (N : Network) (w t : ℕ) (slots : List Slot) (size : length slots ≡ slot_count) where
  pub stale_here : (i : ℕ) → i < slot_count → StaleAt N w t (slot_at slots i) → Stale N w t slots i
  stale_here i l s = other_distance (record { held = record { inside = omega arith; taken = s.stands.taken }; on_time = s.stands.on_time }) s.other

  pub stale_back : (i : ℕ) → Stale N w t slots i → StaleAt N w t (slot_at slots i)
  stale_back i (start_shut s k) = record { stands = record { taken = s.held.taken; on_time = s.on_time }; other = λ d. k (begins_on_node d.walk) }
  stale_back i (goal_shut s k) = record { stands = record { taken = s.held.taken; on_time = s.on_time }; other = λ d. k (ends_on_node d.walk) }
  stale_back i (other_distance s k) = record { stands = record { taken = s.held.taken; on_time = s.on_time }; other = k }

  -- ---- the sieve

  pub sieve_begins : Sieved N w t slots 0 slot_count
  sieve_begins = record { most = omega arith; stale = λ l. absurd (let x : ⊥ = omega arith in x); clear = λ j p l. absurd (not-suc-le-zero l) }

  -- the sieve is through with every slot, and has the first, or there is none
  module _ {i lowest : ℕ} (s : Sieved N w t slots i lowest) (through : lowest ≤ i) where
    passed : Passed (stale_checks N w t slots) lowest
    passed = record { clear = λ p l. ((λ k. let now_stale = stale_back p k in s.clear p p (omega arith) l now_stale.stands refl now_stale), tt) }

    pub sieved_first : lowest < slot_count → FirstIn (stale_slots N w t slots) 17 lowest
    sieved_first l = each_first (stale_checks N w t slots) l passed (here (refl, stale_here lowest l (s.stale l)))

    pub sieved_none : slot_count ≤ lowest → None (stale_slots N w t slots ∷ [])
    sieved_none l = loop_ends passed l

  -- one slot more
  module _ {i lowest : ℕ} (s : Sieved N w t slots i lowest) where
    -- what was known of the slots before, and what holds of slot i
    and_then : ((p : ℕ) → p < lowest → StandsAt w t (slot_at slots i) → (slot_at slots p).start ≡ (slot_at slots i).start → ¬ StaleAt N w t (slot_at slots p))
        → Sieved N w t slots (i + 1) lowest
    and_then now_clear = record {
      most = s.most;
      stale = s.stale;
      clear = λ j p l m. below_more (λ j. StandsAt w t (slot_at slots j) → (slot_at slots p).start ≡ (slot_at slots j).start → ¬ StaleAt N w t (slot_at slots p)) i (λ j l. s.clear j p l m) (now_clear p m) j l;
    }

    pub sieve_passed : ¬ StandsAt w t (slot_at slots i) → Sieved N w t slots (i + 1) lowest
    sieve_passed k = and_then (λ p m h. absurd (k h))

    pub sieve_seen : StandsBefore w t slots (slot_at slots i).start i → Sieved N w t slots (i + 1) lowest
    sieve_seen b = and_then (λ p m h e. s.clear b.place p b.earlier m b.there.stands (e ∙ sym b.there.from_there))

    module _ {row left : List ℕ} {served : Bool} (few : N.nodes ≤ node_limit) (wide : length row ≡ node_limit) (rowed : Rowed N (slot_at slots i).start row left served)
        (small : (p : ℕ) → p < slot_count → (slot_at slots p).distance ≤ distance_limit) (first : ¬ StandsBefore w t slots (slot_at slots i).start i) where
      -- a slot before i with this start would stand before i; one from i on was judged
      judged : (r : ℕ) → r ≤ lowest → ((p : ℕ) → p < r → i ≤ p → ¬ StaleBy (told N.nodes served left) (slot_at slots i).start w t (slot_at slots p))
          → (r < slot_count → StaleAt N w t (slot_at slots r)) → Sieved N w t slots (i + 1) r
      judged r within none now_stale = record {
        most = omega (arith, s.most);
        stale = now_stale;
        clear = λ j p q m. below_more (λ j. StandsAt w t (slot_at slots j) → (slot_at slots p).start ≡ (slot_at slots j).start → ¬ StaleAt N w t (slot_at slots p)) i (λ j l. s.clear j p l (omega arith)) (now_clear p m) j q;
      }
        where
          now_clear : (p : ℕ) → p < r → StandsAt w t (slot_at slots i) → (slot_at slots p).start ≡ (slot_at slots i).start → ¬ StaleAt N w t (slot_at slots p)
          now_clear p m h e k = cases (dec_lt p i)
            where
              cases : Dec (p < i) → ⊥
              cases (yes z) = first (record { place = p; earlier = z; there = record { stands = k.stands; from_there = e } })
              cases (no z) =
                  let there : Rowed N (slot_at slots p).start row left served = rw e rowed in
                  let by = stale_row N (slot_at slots p) w t few wide there (small p (omega (arith, s.most))) k in
                  none p m (omega arith) (subst (λ (a : ℕ). StaleBy (told N.nodes served left) a w t (slot_at slots p)) e by)

      pub sieve_judged : {o : Option ℕ} → LowestBy (told N.nodes served left) (slot_at slots i).start w t slots i lowest o → Sieved N w t slots (i + 1) (unwrap_or o lowest)
      sieve_judged (none_stale none) = judged lowest (omega arith) none s.stale
      sieve_judged (stale {r} l by none) = judged r (omega arith) none (λ m.
          let there : Rowed N (slot_at slots r).start row left served = rw by.there.from_there rowed in
          row_stale N (slot_at slots r) w t few wide there (small r m) by)

-- a number that is at most a limit in every carrier that is not bad, and 0 in a free slot, is so in every
-- slot
pub sound_number : (slots : List Slot) → length slots ≡ slot_count → ¬ SomeBadSlot slots → (i : ℕ) → i < slot_count
    → (number : Slot → ℕ) (limit : ℕ) → number free ≡ 0 → ((c : Slot) → limit < number c → BadSlot c) → number (slot_at slots i) ≤ limit
sound_number slots size sound i l number limit zero bad = cases (is_free_dec (slot_at slots i)) (dec_lt limit (number (slot_at slots i)))
  where
    cases : Dec (slot_at slots i ≡ free) → Dec (limit < number (slot_at slots i)) → number (slot_at slots i) ≤ limit
    cases (yes e) d = rw e (omega (arith, zero))
    cases (no k) (yes far) = absurd (sound (record { place = i; held = record { inside = omega arith; taken = k }; bad = bad (slot_at slots i) far }))
    cases (no k) (no near) = omega arith

pub small_distance : (slots : List Slot) → length slots ≡ slot_count → ¬ SomeBadSlot slots → (i : ℕ) → i < slot_count → (slot_at slots i).distance ≤ distance_limit
small_distance slots size sound i l = sound_number slots size sound i l (λ c. c.distance) distance_limit refl (λ c h. far_distance h)
