-- Ticks on the way to the first one that every held carrier permits. A move to the first tick that one held
-- carrier permits passes only ticks that this carrier forbids, so none that all permit; and such moves add
-- up. A round of all held carriers that moves nothing has asked each of them about the same tick, so all
-- permit it. No move leaves what one tick, one distance and one dwell of 32 bits make, since a tick past a
-- carrier's last tick is permitted by it. Assumes nothing.
use mathlib.Core.Path.{◌≡◌, subst}
use mathlib.Core.List.{List}
use Prim.Native.Nat.{ℕ, ◌+◌, ◌≤◌, ◌<◌}
use native.Mathlib.Nat.{le_refl, not-suc-le-zero}
use native.Mathlib.Decide.{dec_lt}
use native.Mathlib.Omega.{arith}
use lib.ListN.{length}
use Rattle.hall.specs.Rule.{Pair}
use Rattle.hall.specs.Ticks.{SmallestFrom, PermittedBy}
use Rattle.rule.specs.declared.Held.{Held}
use Rattle.rule.specs.Held.{held_pair, held_tick}
use Rattle.rule.specs.Reach.{latest_tick, TickReached, PermittedByHeld, PassedOne, RoundMade}
use Rattle.rule.proofs.Stretch.{Free, free_onward}

pub reached_here : (t : ℕ) (Permits : ℕ → Type 0) → TickReached t Permits t
reached_here t Permits = record { not_before = le_refl t; none_before = λ y h p. h }

pub reached_further : {a b x : ℕ} {Permits : ℕ → Type 0}
    → TickReached a Permits b → TickReached b Permits x → TickReached a Permits x
reached_further r s = record {
  not_before = omega (arith, r.not_before, s.not_before);
  none_before = λ y h p. s.none_before y (r.none_before y h p) p;
}

-- a reached tick that is permitted is the smallest
pub reached_smallest : {a x : ℕ} {Permits : ℕ → Type 0}
    → TickReached a Permits x → Permits x → SmallestFrom a Permits x
reached_smallest r p = record { not_before = r.not_before; permitted = p; least = r.none_before }

-- the first tick that one of the carriers permits is reached against all of them
pub reached_by_one : (w n : ℕ) (pair : ℕ → Pair) (tick : ℕ → ℕ) (p : ℕ) {t x : ℕ}
    → p < n → SmallestFrom t (Free w (pair p) (tick p)) x → TickReached t (PermittedBy w n pair tick) x
unfolding PermittedBy
reached_by_one w n pair tick p h s =
    record { not_before = s.not_before; none_before = λ y l all. s.least y l (all p h) }

permitted_by_none : (w : ℕ) (pair : ℕ → Pair) (tick : ℕ → ℕ) (x : ℕ) → PermittedBy w 0 pair tick x
unfolding PermittedBy
permitted_by_none w pair tick x p h = absurd (not-suc-le-zero h)

permitted_by_more : (w n : ℕ) (pair : ℕ → Pair) (tick : ℕ → ℕ) (x : ℕ)
    → PermittedBy w n pair tick x → Free w (pair n) (tick n) x → PermittedBy w (n + 1) pair tick x
unfolding PermittedBy
permitted_by_more w n pair tick x all one p h = cases (dec_lt p n)
  where
    cases : Dec (p < n) → Free w (pair p) (tick p) x
    cases (yes l) = all p l
    cases (no l) = let e : p ≡ n = omega arith in rw e one

-- a round of the held carriers that began at a tick, has asked those before a place, and is now at another
pub record RoundTo (w : ℕ) (held : List Held) (from place tick : ℕ) : Type 0 where
  -- no tick that all permit was passed
  pub reached : TickReached from (PermittedByHeld w held (length held)) tick
  -- if nothing moved, each that was asked permits the tick
  pub still : tick ≡ from → PermittedByHeld w held place from
  -- if something moved, a carrier was passed for good
  pub passed : from < tick → PassedOne w held from tick
  -- the sums of the next test fit
  pub within : tick ≤ latest_tick

module _ (w : ℕ) (held : List Held) (from : ℕ) where
  pub round_begins : from ≤ latest_tick → RoundTo w held from 0 from
  round_begins h = record {
    reached = reached_here from (PermittedByHeld w held (length held));
    still = λ e. permitted_by_none w (held_pair held) (held_tick held) from;
    passed = λ l. absurd (let x : ⊥ = omega arith in x);
    within = h;
  }

  module _ (place tick x : ℕ) (inside : place < length held) (s : RoundTo w held from place tick)
      (one : SmallestFrom tick (Free w (held_pair held place) (held_tick held place)) x) where
    still_on : x ≡ from → PermittedByHeld w held (place + 1) from
    still_on e =
        permitted_by_more w place (held_pair held) (held_tick held) from (s.still same)
        (subst (Free w (held_pair held place) (held_tick held place)) e one.permitted)
      where
        same : tick ≡ from
        same = omega (arith, s.reached.not_before, one.not_before)

    -- the carrier that moves the tick is passed for good; if it does not, one before it was
    passed_on : from < x → Dec (tick < x) → PassedOne w held from x
    passed_on h (yes l) = record {
      place = place;
      inside = inside;
      tick = tick;
      not_before = s.reached.not_before;
      held_up = λ f. let k = one.least tick (le_refl tick) f in omega arith;
      free_on = free_onward w (held_pair held place) (held_tick held place) tick x one l;
    }
    passed_on h (no l) =
        let e : tick ≡ x = omega (arith, one.not_before) in
        subst (PassedOne w held from) e (s.passed (omega arith))

    pub round_on : x ≤ latest_tick → RoundTo w held from (place + 1) x
    round_on within = record {
      reached =
          reached_further s.reached
          (reached_by_one w (length held) (held_pair held) (held_tick held) place inside one);
      still = still_on;
      passed = λ h. passed_on h (dec_lt tick x);
      within = within;
    }

  pub round_ends : {place tick : ℕ}
      → place ≡ length held → RoundTo w held from place tick → RoundMade w held from tick
  round_ends e s = record {
    reached = s.reached;
    still = λ f. rw e at (s.still f);
    passed = s.passed;
    within = s.within;
  }

-- a reached tick that a whole round does not move is the smallest that all permit
pub round_smallest : (w : ℕ) (held : List Held) (from tick next : ℕ)
    → TickReached from (PermittedByHeld w held (length held)) tick → RoundMade w held tick next → next ≤ tick
    → SmallestFrom from (PermittedByHeld w held (length held)) tick
round_smallest w held from tick next r s h =
    reached_smallest r (s.still (omega (arith, s.reached.not_before)))
