-- From a call that passes its checks to the tick, the slot and the book that are left. No slot is stale, so
-- after forgetting every carrier held has its true distance, and the rows from the move's start and goal hold
-- the other four distances of its pair with the move. There is one such pair, so the smallest tick by the
-- rows is the smallest that every carrier held permits. A free slot has the mark for "no walk" between the
-- starts and forbids nothing. Either some slot is free after forgetting, or 15. Assumes nothing.
--     pair_once        two carriers have one pair of distances
--     true_smallest    the tick by the rows is the one that an admission gets
--     tick_fits        and it has 32 bits
use mathlib.Core.Path.{◌≡◌, refl, ap, subst}
use mathlib.Core.Logic.{◌⊎◌, inl, inr, ◌≢◌}
use mathlib.Core.List.{List}
use Prim.Native.Nat.{ℕ, ◌+◌, ◌≤◌, ◌<◌}
use native.Mathlib.Decide.{ℕ_discrete, dec_lt}
use native.Mathlib.Omega.{arith}
use lib.ListN.{length, get_or, set}
use lib.IntN.{pos, ◌-ℤ◌}
use Rattle.hall.specs.declared.Refusal.{Refusal}
use Rattle.std.specs.Prelude.{Err}
use Rattle.hall.specs.Limits.{no_walk_mark}
use Rattle.hall.specs.Floor.{Floor, Dist, NoWalk, Network, floor}
use Rattle.hall.specs.Rule.{Pair, Permitted}
use Rattle.hall.specs.Ticks.{SmallestFrom, PermittedBy}
use Rattle.hall.specs.Plan.{DistancesOf}
use Rattle.hall.specs.Numbers.{number_of}
use Rattle.hall.specs.Stages.{None, First}
use Rattle.hall.specs.Said.{accepted}
use Rattle.hall.proofs.Walks.{begins_on_node, ends_on_node, dist_unique, distance_unique}
use Rattle.hall.proofs.Walks.{distance_symmetric, true_distance, lanes_symmetric, marked_none}
use Rattle.hall.proofs.Compose.{none_at_all, none_append, first_after}
use Rattle.hall.proofs.Places.{asked_here, asked_clear, none_each}
use Rattle.hall.proofs.Decide.{joined_or_not}
use Rattle.rule.proofs.Bound.{first_tick_bound}
use Rattle.slots.specs.declared.Slot.{Slot}
use Rattle.slots.specs.declared.Book.{Book}
use Rattle.admission.specs.declared.rows.Rows.{Rows}
use Rattle.admission.specs.declared.Stepped.{Stepped}
use Rattle.slots.specs.Record.{slot_count, free, slot_at, Held, forgetting}
use Rattle.slots.specs.Record.{LowestFree, book_with}
use Rattle.slots.specs.Refusals.{BadSlot, far_start, far_goal, far_distance, late_start}
use Rattle.slots.specs.Refusals.{Damaged, long_dwell, bad_slot}
use Rattle.admission.specs.Refusals.{Stale, other_distance, Full}
use Rattle.admission.specs.Questions.{stale_checks, call_question, admission_question}
use Rattle.admission.specs.Admission.{PermitsOne, PermittedHeld, carrier_of, Admission}
use Rattle.admission.specs.Admission.{said_answer}
use Rattle.admission.specs.Steps.{starts_for, pair_for, OnRows, TickFor, RowsFrom, Settles}
use Rattle.slots.proofs.Slots.{is_free_dec, free_test, taken_test, forgetting_length, kept_or_free, still_held, held_still}
use Rattle.admission.proofs.StaleSlots.{sound_number}
use Rattle.admission.proofs.SoundCall.{walk_there, book_sound, not_beyond, move_clear, none_stale, call_tells}

-- two carriers have one pair of distances
pub pair_once : {F : Floor} {si gi sj gj : ℕ} {p q : Pair} → DistancesOf F si gi sj gj p → DistancesOf F si gi sj gj q → p ≡ q
pair_once a b = λ i. record {
  ss = distance_unique a.starts b.starts i;
  gg = distance_unique a.goals b.goals i;
  ii = dist_unique a.own_i b.own_i i;
  jj = dist_unique a.own_j b.own_j i;
  ij = distance_unique a.i_to_j b.i_to_j i;
  ji = distance_unique a.j_to_i b.j_to_i i;
}

-- ---- a book that is not damaged

module _ (b : Book) (size : length b.slots ≡ slot_count) (sound : ¬ Damaged b) where
  sound_slot : (i : ℕ) → i < slot_count → (number : Slot → ℕ) (limit : ℕ) → number free ≡ 0 → ((c : Slot) → limit < number c → BadSlot c) → number (slot_at b.slots i) ≤ limit
  sound_slot = sound_number b.slots size (λ k. sound (bad_slot k))

  -- so after forgetting
  kept_slot : (w now i : ℕ) → i < slot_count → (number : Slot → ℕ) (limit : ℕ) → number free ≡ 0 → ((c : Slot) → limit < number c → BadSlot c)
      → number (slot_at (forgetting w now b.slots) i) ≤ limit
  kept_slot w now i l number limit zero bad = cases (kept_or_free w now b.slots i)
    where
      cases : (slot_at (forgetting w now b.slots) i ≡ slot_at b.slots i) ⊎ (slot_at (forgetting w now b.slots) i ≡ free) → number (slot_at (forgetting w now b.slots) i) ≤ limit
      cases (inl e) = rw e (sound_slot i l number limit zero bad)
      cases (inr e) = rw e (omega (arith, zero))

  pub kept_on_rows : (w now : ℕ) → OnRows (forgetting w now b.slots)
  kept_on_rows w now = record {
    starts = λ i l. let r = kept_slot w now i l (λ c. c.start) 1023 refl (λ c h. far_start (omega arith)) in omega arith;
    goals = λ i l. let r = kept_slot w now i l (λ c. c.goal) 1023 refl (λ c h. far_goal (omega arith)) in omega arith;
  }

  pub kept_early : (w now i : ℕ) → i < slot_count → (slot_at (forgetting w now b.slots) i).tick + (slot_at (forgetting w now b.slots) i).distance ≤ 4000201023
  kept_early w now i l =
      let a = kept_slot w now i l (λ c. c.tick) 4000200000 refl (λ c h. late_start h) in
      let d = kept_slot w now i l (λ c. c.distance) 1023 refl (λ c h. far_distance h) in
      omega arith

  pub dwell_small : b.dwell ≤ 255
  dwell_small = cases (dec_lt 255 b.dwell)
    where
      cases : Dec (255 < b.dwell) → b.dwell ≤ 255
      cases (yes l) = absurd (sound (long_dwell l))
      cases (no k) = omega arith

-- ---- the slot

module _ (b : Book) (size : length b.slots ≡ slot_count) (now : ℕ) where
  -- after forgetting no slot is free exactly if 15
  pub full_if : ((j : ℕ) → j < slot_count → slot_at (forgetting b.dwell now b.slots) j ≢ free) → Full b.dwell now b.slots
  full_if none i l = (still_held b.dwell now b.slots i (record { inside = omega (arith, forgetting_length b.dwell now b.slots); taken = none i l })).0

  pub not_full : {i : ℕ} → LowestFree (forgetting b.dwell now b.slots) i → ¬ Full b.dwell now b.slots
  not_full {i} low full = (held_still b.dwell now b.slots i (full i low.inside)).0.taken low.is_free

-- ---- a call that passes its checks

module _ (N : Network) (b : Book) (now s g : ℕ) (size : length b.slots ≡ slot_count) (sound : None (call_question N b now s g)) where
  abbrev w : ℕ
  w = b.dwell

  abbrev kept : List Slot
  kept = forgetting b.dwell now b.slots

  -- no carrier that is still held is stale: its distance is the true one
  pub true_held : (i : ℕ) → Held kept i → Dist (floor N) (slot_at kept i).start (slot_at kept i).goal (slot_at kept i).distance
  true_held i h =
      let was = still_held w now b.slots i h in
      let here = slot_at b.slots i in
      let true_dist : Dist (floor N) here.start here.goal here.distance = decided (joined_or_not N here.start here.goal) (λ k. clear i (omega (arith, was.0.held.inside)) (other_distance was.0 k)) in
      rw was.1 true_dist
    where
      clear : (i : ℕ) → i < slot_count → ¬ Stale N w now b.slots i
      clear i l k = ((none_each (stale_checks N w now b.slots) (none_stale N b now s g sound)).0.clear i l).0 k

      -- whether a number is the distance can be seen
      decided : {F : Floor} {a c d : ℕ} → ((e : ℕ) × Dist F a c e) ⊎ NoWalk F a c → ¬ (¬ Dist F a c d) → Dist F a c d
      decided {F} {a} {c} {d} (inr none) k = absurd (k (λ x. none d x.walk))
      decided {F} {a} {c} {d} (inl h) k = cases (ℕ_discrete h.0 d)
        where
          cases : Dec (h.0 ≡ d) → Dist F a c d
          cases (yes e) = subst (Dist F a c) e h.1
          cases (no e) = absurd (k (λ x. e (dist_unique h.1 x)))

  module _ (rows : Rows) (from_ends : RowsFrom N s g rows) where
    abbrev own : ℕ
    own = get_or rows.outward g 0

    abbrev pair : Slot → Pair
    pair c = pair_for rows own c

    own_reached : own ≢ no_walk_mark
    own_reached e = walk_there N s g (move_clear N b now s g sound) (marked_none (from_ends.of_start g (call_tells N b now s g sound).goal_open.numbered) e)

    pub own_distance : Dist (floor N) s g own
    own_distance = true_distance (from_ends.of_start g (call_tells N b now s g sound).goal_open.numbered) own_reached

    -- the pair of a carrier held, by the rows
    pub true_pair : (i : ℕ) → Held kept i → DistancesOf (floor N) (slot_at kept i).start (slot_at kept i).goal s g (pair (slot_at kept i))
    unfolding pair_for
    true_pair i h =
        let c = slot_at kept i in
        let d = true_held i h in
        let start = (begins_on_node d.walk).numbered in
        let goal = (ends_on_node d.walk).numbered in
        record {
          own_i = d;
          own_j = own_distance;
          starts = rw (taken_test c h.taken) (distance_symmetric (lanes_symmetric N) (from_ends.of_start c.start start));
          goals = distance_symmetric (lanes_symmetric N) (from_ends.of_goal c.goal goal);
          i_to_j = distance_symmetric (lanes_symmetric N) (from_ends.of_goal c.start start);
          j_to_i = from_ends.of_start c.goal goal;
        }

    -- a free slot forbids nothing
    pub free_permits : (c : Slot) → c ≡ free → (x t : ℕ) → Permitted w (pair c) (pos x -ℤ pos t)
    unfolding pair_for
    free_permits c e x t f = f.joined (ap (λ y. starts_for y (get_or rows.outward c.start 0)) (free_test c e))

    to_held : (x : ℕ) → PermittedBy w slot_count (λ i. pair (slot_at kept i)) (λ i. (slot_at kept i).tick) x → PermittedHeld N w kept s g x
    unfolding PermittedBy PermittedHeld PermitsOne
    to_held x f i h p six = rw (pair_once six (true_pair i h)) (f i (omega (arith, h.inside, forgetting_length w now b.slots)))

    of_held : (x : ℕ) → PermittedHeld N w kept s g x → PermittedBy w slot_count (λ i. pair (slot_at kept i)) (λ i. (slot_at kept i).tick) x
    unfolding PermittedBy PermittedHeld PermitsOne
    of_held x f i l = cases (is_free_dec (slot_at kept i))
      where
        cases : Dec (slot_at kept i ≡ free) → Permitted w (pair (slot_at kept i)) (pos x -ℤ pos (slot_at kept i).tick)
        cases (yes e) = free_permits (slot_at kept i) e x (slot_at kept i).tick
        cases (no k) =
            let h : Held kept i = record { inside = omega (arith, forgetting_length w now b.slots); taken = k } in
            f i h (pair (slot_at kept i)) (true_pair i h)

    pub true_smallest : {x : ℕ} → TickFor rows own w now kept x → SmallestFrom now (PermittedHeld N w kept s g) x
    true_smallest {x} t = record {
      not_before = t.not_before;
      permitted = to_held x t.permitted;
      least = λ y l f. t.least y l (of_held y f);
    }

    pub tick_fits : {x : ℕ} → TickFor rows own w now kept x → x ≤ 4000201279
    unfolding pair_for
    tick_fits {x} t =
        first_tick_bound w slot_count (λ i. pair (slot_at kept i)) (λ i. (slot_at kept i).tick) 4000201279 t
        (λ i l. omega (arith, kept_early b size (book_sound N b now s g sound) w now i l, dwell_small b size (book_sound N b now s g sound)))
        (omega (arith, not_beyond N b now s g sound))

-- ---- the answers

module _ (N : Network) (b : Book) (now s g : ℕ) where
  pub refuses : {r : Stepped} (f : Refusal) → r ≡ record { answer = Err f; book = b } → First (admission_question N b now s g) (number_of f.fault) f.place
      → Admission N b now s g (said_answer r.answer) r.book × Settles N now (said_answer r.answer) r.book
  refuses f e h = rw e (record { fits = h; outcome = refl }, tt)

  module _ (size : length b.slots ≡ slot_count) (sound : None (call_question N b now s g)) where
    pub no_slot : ((j : ℕ) → j < slot_count → slot_at (forgetting b.dwell now b.slots) j ≢ free) → First (admission_question N b now s g) 15 0
    no_slot none = first_after sound (asked_here (full_if b size now none))

    pub admitted : {x : ℕ} (rows : Rows) → RowsFrom N s g rows → (slot : ℕ) → LowestFree (forgetting b.dwell now b.slots) slot
        → TickFor rows (get_or rows.outward g 0) b.dwell now (forgetting b.dwell now b.slots) x
        → Admission N b now s g (accepted (record { tick = x; slot = slot })) (book_with now b.dwell (set (forgetting b.dwell now b.slots) slot (carrier_of s g (get_or rows.outward g 0) x)))
    admitted rows from_ends slot low t = record {
      fits = none_append sound (asked_clear (not_full b size now low) none_at_all);
      outcome = record {
        distance = get_or rows.outward g 0;
        own = own_distance N b now s g size sound rows from_ends;
        smallest = true_smallest N b now s g size sound rows from_ends t;
        takes = low;
        left_is = refl;
      };
    }
