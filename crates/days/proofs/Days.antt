-- A book that forgets gives every carrier the tick that a book would give it that forgets nothing and has a
-- slot for everybody. Every carrier ever admitted is still held, or its last tick is before the clock; a carrier
-- whose last tick is before now permits every tick from now up, so the two books permit the same ticks from
-- now up, and the smallest is one. By induction over the calls. Assumes nothing.
--     Remembers        what a book still knows of the carriers ever admitted
--     same_ticks       the theorem: the carriers that a day admitted, ticks included, are those of that
--                      book
use mathlib.Core.Path.{◌≡◌, refl, sym, ◌∙◌, subst}
use mathlib.Core.Logic.{◌⊎◌, inl, inr}
use mathlib.Core.List.{List, [], ◌∷◌}
use Prim.Native.Nat.{ℕ, zero, suc, ◌≤◌, ◌<◌}
use native.Mathlib.Nat.{not-suc-le-zero}
use native.Mathlib.Decide.{dec_lt}
use native.Mathlib.Omega.{arith}
use lib.ListN.{length, set, replicate, length-replicate, get_or-replicate, length-set}
use Rattle.hall.specs.Floor.{Dist, Network, floor}
use Rattle.hall.specs.Ticks.{SmallestFrom}
use Rattle.hall.proofs.Walks.{dist_unique}
use Rattle.hall.proofs.Ticks.{smallest_unique}
use Rattle.slots.specs.declared.Slot.{Slot}
use Rattle.slots.specs.declared.Book.{Book}
use Rattle.slots.specs.Record.{slot_count, free, slot_at, Held, last_tick, forgetting, empty_book}
use Rattle.admission.specs.Admission.{PermitsOne, PermittedHeld, carrier_of}
use Rattle.slots.proofs.Slots.{Stands, forgetting_length, still_held, held_still, new_stands, others_stand, new_or_held}
use Rattle.days.specs.Day.{Call, Day, begins, admits, refuses, PermittedEver, UnforgottenDay}
use Rattle.days.specs.Day as D
use Rattle.admission.proofs.Took.{past, Took, took}

pub record Remembers (N : Network) (w : ℕ) (ever : List Slot) (b : Book) : Type 0 where
  pub dwell_is : b.dwell ≡ w
  pub size : length b.slots ≡ slot_count
  -- whoever is held was admitted
  pub admitted : (i : ℕ) → Held b.slots i → (p : ℕ) × (p < length ever) × (slot_at ever p ≡ slot_at b.slots i)
  -- whoever was admitted is held, or is past the clock
  pub held_or_past : (p : ℕ) → p < length ever → Stands b.slots (slot_at ever p) ⊎ (last_tick w (slot_at ever p) < b.clock)
  -- whoever was admitted has its true distance
  pub true_distance : (p : ℕ) → p < length ever → Dist (floor N) (slot_at ever p).start (slot_at ever p).goal (slot_at ever p).distance

-- a smallest tick depends on what is permitted from its beginning up, and on nothing else
pub smallest_carry : {from x : ℕ} {P Q : ℕ → Type 0} → ((y : ℕ) → from ≤ y → P y → Q y) → ((y : ℕ) → from ≤ y → Q y → P y) → SmallestFrom from P x → SmallestFrom from Q x
smallest_carry {x = x} f g s = record { not_before = s.not_before; permitted = f x s.not_before s.permitted; least = λ y h q. s.least y h (g y h q) }

-- ---- a day of the book that forgets nothing is one only

one_more : (N : Network) (w : ℕ) (call : Call) {ever other : List Slot} {x y d e : ℕ} → ever ≡ other → SmallestFrom call.now (PermittedEver N w ever call.start call.goal) x
    → SmallestFrom call.now (PermittedEver N w other call.start call.goal) y → d ≡ e
    → carrier_of call.start call.goal d x ∷ ever ≡ carrier_of call.start call.goal e y ∷ other
one_more N w call {ever} {other} {x} {y} {d} {e} same s t own =
    let tick : x ≡ y = smallest_unique (subst (λ (l : List Slot). SmallestFrom call.now (PermittedEver N w l call.start call.goal) x) same s) t in
    λ i. carrier_of call.start call.goal (own i) (tick i) ∷ same i

pub unforgotten_unique : (N : Network) (w : ℕ) {calls : List Call} {ever other : List Slot} → UnforgottenDay N w calls ever → UnforgottenDay N w calls other → ever ≡ other
unforgotten_unique N w D.UnforgottenDay.begins D.UnforgottenDay.begins = refl
unforgotten_unique N w (D.UnforgottenDay.admits a call x d s own) (D.UnforgottenDay.admits c _ y e t own') = one_more N w call (unforgotten_unique N w a c) s t (dist_unique own own')

-- ---- one admission more

-- what the two books permit from now up
module _ (N : Network) (w : ℕ) {ever : List Slot} {b : Book} (known : Remembers N w ever b) (now s g : ℕ) (not_back : b.clock ≤ now) where
  abbrev kept : List Slot
  kept = forgetting w now b.slots

  pub held_permits : (y : ℕ) → now ≤ y → PermittedHeld N w kept s g y → PermittedEver N w ever s g y
  unfolding PermittedHeld PermittedEver
  held_permits y l f p h = cases (known.held_or_past p h)
    where
      standing : (t : Stands b.slots (slot_at ever p)) → Dec (last_tick w (slot_at ever p) < now) → PermitsOne N w (slot_at ever p) s g y
      standing t (yes k) = past N w (slot_at ever p) (known.true_distance p h) s g y (omega arith)
      standing t (no k) =
          let late : now ≤ last_tick w (slot_at b.slots t.place) = subst (λ (c : Slot). now ≤ last_tick w c) (sym t.is) (omega arith) in
          let r = held_still w now b.slots t.place (record { held = t.held; on_time = late }) in
          subst (λ (c : Slot). PermitsOne N w c s g y) (r.1 ∙ t.is) (f t.place r.0)

      cases : Stands b.slots (slot_at ever p) ⊎ (last_tick w (slot_at ever p) < b.clock) → PermitsOne N w (slot_at ever p) s g y
      cases (inl t) = standing t (dec_lt (last_tick w (slot_at ever p)) now)
      cases (inr k) = past N w (slot_at ever p) (known.true_distance p h) s g y (omega (arith, not_back))

  pub ever_permits : (y : ℕ) → PermittedEver N w ever s g y → PermittedHeld N w kept s g y
  unfolding PermittedHeld PermittedEver
  ever_permits y f i h =
      let was = still_held w now b.slots i h in
      let then = known.admitted i was.0.held in
      subst (λ (c : Slot). PermitsOne N w c s g y) (then.2 ∙ sym was.1) (f then.0 then.1)

module _ (N : Network) (w : ℕ) {ever : List Slot} {b left : Book} {now s g x d : ℕ} (known : Remembers N w ever b) (a : Took N w b now s g x d left) where
  abbrev still : List Slot
  still = forgetting w now b.slots

  abbrev new : Slot
  new = carrier_of s g d x

  still_size : length still ≡ slot_count
  still_size = forgetting_length w now b.slots ∙ known.size

  -- the tick of the book that forgets is that of the book that does not
  pub unseen : SmallestFrom now (PermittedEver N w ever s g) x
  unseen = smallest_carry (held_permits N w known now s g a.not_back) (λ y l. ever_permits N w known now s g a.not_back y) a.smallest

  -- ---- what the book knows after the admission

  admitted_then : (i : ℕ) → Held (set still a.slot new) i → (p : ℕ) × (p < length (new ∷ ever)) × (slot_at (new ∷ ever) p ≡ slot_at (set still a.slot new) i)
  admitted_then i h = cases (new_or_held still still_size a.slot a.takes new a.taken i h)
    where
      cases : (slot_at (set still a.slot new) i ≡ new) ⊎ (Held still i × (slot_at (set still a.slot new) i ≡ slot_at still i))
          → (p : ℕ) × (p < length (new ∷ ever)) × (slot_at (new ∷ ever) p ≡ slot_at (set still a.slot new) i)
      cases (inl e) = (0, omega arith, sym e)
      cases (inr k) =
          let was = still_held w now b.slots i k.0 in
          let then = known.admitted i was.0.held in
          (suc then.0, omega (arith, then.1), then.2 ∙ sym was.1 ∙ sym k.1)

  held_or_past_then : (p : ℕ) → p < length (new ∷ ever) → Stands (set still a.slot new) (slot_at (new ∷ ever) p) ⊎ (last_tick w (slot_at (new ∷ ever) p) < now)
  held_or_past_then zero h = inl (new_stands still still_size a.slot a.takes new a.taken)
  held_or_past_then (suc p) h = cases (known.held_or_past p (omega arith))
    where
      standing : (t : Stands b.slots (slot_at ever p)) → Dec (last_tick w (slot_at ever p) < now) → Stands (set still a.slot new) (slot_at ever p) ⊎ (last_tick w (slot_at ever p) < now)
      standing t (yes k) = inr k
      standing t (no k) =
          let late : now ≤ last_tick w (slot_at b.slots t.place) = subst (λ (c : Slot). now ≤ last_tick w c) (sym t.is) (omega arith) in
          let r = held_still w now b.slots t.place (record { held = t.held; on_time = late }) in
          let o = others_stand still still_size a.slot a.takes new a.taken t.place r.0 in
          inl (record { place = o.place; held = o.held; is = o.is ∙ r.1 ∙ t.is })

      cases : Stands b.slots (slot_at ever p) ⊎ (last_tick w (slot_at ever p) < b.clock) → Stands (set still a.slot new) (slot_at ever p) ⊎ (last_tick w (slot_at ever p) < now)
      cases (inl t) = standing t (dec_lt (last_tick w (slot_at ever p)) now)
      cases (inr k) = inr (omega (arith, a.not_back))

  true_distance_then : (p : ℕ) → p < length (new ∷ ever) → Dist (floor N) (slot_at (new ∷ ever) p).start (slot_at (new ∷ ever) p).goal (slot_at (new ∷ ever) p).distance
  true_distance_then zero h = a.own
  true_distance_then (suc p) h = known.true_distance p (omega arith)

  pub remembers_then : Remembers N w (new ∷ ever) left
  remembers_then = rw a.left_is (record {
    dwell_is = refl;
    size = length-set still a.slot new ∙ still_size;
    admitted = admitted_then;
    held_or_past = held_or_past_then;
    true_distance = true_distance_then;
  })

-- ---- the whole day

module _ (N : Network) (w : ℕ) where
  nobody : (i : ℕ) → Held (replicate slot_count free) i → ⊥
  nobody i h = h.taken (get_or-replicate slot_count i free free (omega (arith, h.inside, length-replicate slot_count free)))

  remembers_empty : Remembers N w [] (empty_book w)
  remembers_empty = record {
    dwell_is = refl;
    size = length-replicate slot_count free;
    admitted = λ i h. absurd (nobody i h);
    held_or_past = λ p h. absurd (not-suc-le-zero h);
    true_distance = λ p h. absurd (not-suc-le-zero h);
  }

  pub remembers : {calls : List Call} {ever : List Slot} {b : Book} → Day N w calls ever b → Remembers N w ever b
  remembers begins = remembers_empty
  remembers (admits d call x left a) = let k = remembers d in remembers_then N w k (took N w k.dwell_is a)
  remembers {ever = ever} (refuses d call n p left a) = subst (Remembers N w ever) (sym a.outcome) (remembers d)

  -- a day is a day of the book that forgets nothing
  pub unforgotten_day : {calls : List Call} {ever : List Slot} {b : Book} → Day N w calls ever b → UnforgottenDay N w calls ever
  unforgotten_day begins = D.UnforgottenDay.begins
  unforgotten_day (admits d call x left a) =
      let k = remembers d in
      D.UnforgottenDay.admits (unforgotten_day d) call x.tick a.outcome.distance (unseen N w k (took N w k.dwell_is a)) a.outcome.own
  unforgotten_day (refuses d call n p left a) = unforgotten_day d

  pub same_ticks : {calls : List Call} {ever full : List Slot} {b : Book} → Day N w calls ever b → UnforgottenDay N w calls full → ever ≡ full
  same_ticks d f = unforgotten_unique N w (unforgotten_day d) f
