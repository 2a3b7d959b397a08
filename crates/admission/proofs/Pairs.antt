-- Every two moves on a network have a pair of distances, and what every carrier held permits is what a list
-- of pairs permits, one for each slot: a free slot has the mark for "no walk" between the starts. So a start
-- tick is never far from now, whatever the book holds. Assumes nothing.
--     six            the pair of a carrier and a move
--     tick_near      an accepted start tick is at most 163,648 ticks after now
--     tick_bound     and at most one tick after the latest last tick held, or now, whichever is later
--     alone_now      and now where nobody is held
use mathlib.Core.Path.{◌≡◌, refl}
use mathlib.Core.Logic.{◌≢◌}
use mathlib.Core.List.{List}
use Prim.Native.Nat.{ℕ, ◌+◌, ◌≤◌, ◌<◌, max}
use native.Mathlib.Decide.{dec_lt}
use native.Mathlib.Omega.{arith}
use lib.ListN.{length}
use lib.IntN.{pos, ◌-ℤ◌}
use Rattle.hall.specs.Limits.{node_limit, no_walk_mark}
use Rattle.hall.specs.Floor.{Dist, Network, floor}
use Rattle.hall.specs.Rule.{Pair, pair6, Permitted}
use Rattle.hall.specs.Ticks.{SmallestFrom, PermittedBy}
use Rattle.hall.specs.Plan.{DistancesOf}
use Rattle.hall.proofs.Decide.{distance_exists, node_below}
use Rattle.hall.proofs.Pigeon.{dist_below}
use Rattle.hall.proofs.Lowest.{dec_and, dec_not}
use Rattle.slots.specs.declared.Slot.{Slot}
use Rattle.slots.specs.declared.Book.{Book}
use Rattle.slots.specs.Record.{slot_count, free, slot_at, Held, last_tick, forgetting}
use Rattle.admission.specs.Admission.{PermitsOne, PermittedHeld}
use Rattle.slots.proofs.Slots.{is_free_dec, forgetting_length}
use Rattle.admission.proofs.SoundCall.{book_sound, call_tells}
use Rattle.admission.proofs.Admitting.{pair_once, true_held, dwell_small}
use Rattle.admission.proofs.Took.{past, Took}
use Rattle.rule.proofs.Near.{near_tick}

-- the pair of two moves with their own distances
unfoldable pub six : (N : Network) → N.nodes ≤ node_limit → (si gi sj gj di dj : ℕ) → Dist (floor N) si gi di → Dist (floor N) sj gj dj
    → (p : Pair) × DistancesOf (floor N) si gi sj gj p
six N few si gi sj gj di dj own_i own_j =
    let ss = distance_exists N few si sj in
    let gg = distance_exists N few gi gj in
    let ij = distance_exists N few si gj in
    let ji = distance_exists N few sj gi in (
      pair6 ss.0 gg.0 di dj ij.0 ji.0,
      record { own_i = own_i; own_j = own_j; starts = ss.1; goals = gg.1; i_to_j = ij.1; j_to_i = ji.1 },
    )

-- a distance is below the number of nodes
pub distance_few : (N : Network) → N.nodes ≤ node_limit → {a b d : ℕ} → Dist (floor N) a b d → d ≤ 1023
distance_few N few h = let l = dist_below N.nodes (node_below N) h in omega arith

module _ (N : Network) (w : ℕ) {b left : Book} {now s g x d : ℕ} (same : b.dwell ≡ w) (size : length b.slots ≡ slot_count) (a : Took N w b now s g x d left) where
  abbrev kept : List Slot
  kept = forgetting w now b.slots

  few : N.nodes ≤ node_limit
  few = (call_tells N b now s g a.sound).few_nodes

  true_kept : (i : ℕ) → Held kept i → Dist (floor N) (slot_at kept i).start (slot_at kept i).goal (slot_at kept i).distance
  true_kept = rw same at (true_held N b now s g size a.sound)

  held? : (i : ℕ) → Dec (Held kept i)
  held? i = cases (dec_and (dec_lt i (length kept)) (dec_not (is_free_dec (slot_at kept i))))
    where
      cases : Dec ((i < length kept) × (slot_at kept i ≢ free)) → Dec (Held kept i)
      cases (yes h) = yes (record { inside = h.0; taken = h.1 })
      cases (no k) = no (λ h. k (h.inside, h.taken))

  abbrev pair_at : (i : ℕ) → Dec (Held kept i) → Pair
  pair_at i (yes h) = (six N few (slot_at kept i).start (slot_at kept i).goal s g (slot_at kept i).distance d (true_kept i h) a.own).0
  pair_at i (no k) = pair6 no_walk_mark 0 0 0 0 0

  to_one : (y i : ℕ) (z : Dec (Held kept i)) → Permitted w (pair_at i z) (pos y -ℤ pos (slot_at kept i).tick) → Held kept i → PermitsOne N w (slot_at kept i) s g y
  unfolding PermitsOne
  to_one y i (yes h) f k = λ p q.
      rw (pair_once q (six N few (slot_at kept i).start (slot_at kept i).goal s g (slot_at kept i).distance d (true_kept i h) a.own).1) f
  to_one y i (no n) f k = absurd (n k)

  of_one : (y i : ℕ) (z : Dec (Held kept i)) → (Held kept i → PermitsOne N w (slot_at kept i) s g y) → Permitted w (pair_at i z) (pos y -ℤ pos (slot_at kept i).tick)
  unfolding PermitsOne
  of_one y i (yes h) f = let q = six N few (slot_at kept i).start (slot_at kept i).goal s g (slot_at kept i).distance d (true_kept i h) a.own in f h q.0 q.1
  of_one y i (no n) f = λ x. x.joined refl

  small : (i : ℕ) (z : Dec (Held kept i)) → (pair_at i z).ii + (pair_at i z).jj + (w + w) ≤ 2556
  unfolding six
  small i (yes h) = omega (arith, distance_few N few (true_kept i h), distance_few N few a.own, dwell)
    where
      dwell : w ≤ 255
      dwell = rw same at (dwell_small b size (book_sound N b now s g a.sound))
  small i (no n) = omega (arith, dwell)
    where
      dwell : w ≤ 255
      dwell = rw same at (dwell_small b size (book_sound N b now s g a.sound))

  by_pairs : SmallestFrom now (PermittedBy w slot_count (λ i. pair_at i (held? i)) (λ i. (slot_at kept i).tick)) x
  unfolding PermittedBy PermittedHeld
  by_pairs = record {
    not_before = a.smallest.not_before;
    permitted = λ i l. of_one x i (held? i) (a.smallest.permitted i);
    least = λ y l f. a.smallest.least y l (λ i h. to_one y i (held? i) (f i (omega (arith, h.inside, forgetting_length w now b.slots))) h);
  }

  pub tick_near : x ≤ now + 163648
  tick_near =
      let r = near_tick w slot_count (λ i. pair_at i (held? i)) (λ i. (slot_at kept i).tick) (λ i l. small i (held? i)) by_pairs in
      omega arith

  -- t is any tick that no carrier held is on the floor after
  pub tick_bound : (t : ℕ) → ((i : ℕ) → Held kept i → last_tick w (slot_at kept i) ≤ t) → x ≤ max now (t + 1)
  unfolding PermittedHeld
  tick_bound t last =
      a.smallest.least (max now (t + 1)) (omega arith) (λ i h. past N w (slot_at kept i) (true_kept i h) s g (max now (t + 1)) (omega (arith, last i h)))

  -- where nobody is held, every tick from now up is permitted
  pub alone_now : ((i : ℕ) → ¬ Held kept i) → x ≡ now
  unfolding PermittedHeld
  alone_now none = let l = a.smallest.least now (omega arith) (λ i h. absurd (none i h)) in omega (arith, a.smallest.not_before)
