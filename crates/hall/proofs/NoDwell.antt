-- Without dwell every definition says what page 01 says (specs/NoDwell.antt). The ends of the stretch are
-- moved by 0, and the exception counts; a carrier that stands 0 ticks longer stands on its goal at its goal
-- tick alone; and the latest last tick is the latest goal tick. Each is an equivalence, so nothing of the
-- plain rules is lost and nothing is added. Assumes nothing.
--     forbidden_plain    the pair rule with dwell 0 is the plain one
--     start_ticks_plain  so are the start ticks by it
--     at_plain, meet_plain, cross_plain    so are a carrier's place at a tick, meeting and crossing
--     demand3_plain      and demand 3
use mathlib.Core.Path.{◌≡◌, refl}
use mathlib.Core.Logic.{◌↔◌, inl}
use mathlib.Core.List.{List}
use Prim.Native.Nat.{ℕ, zero, suc, ◌<◌, zero-le}
use native.Mathlib.Omega.{arith}
use lib.ListN.{get_or}
use lib.IntN.{ℤ, pos, neg_ℤ, ◌-ℤ◌}
use lib.Signed.{◌≤ℤ◌}
use Rattle.hall.specs.Floor.{Floor}
use Rattle.hall.specs.Rule.{Pair, lead_i, lead_j, low_end, high_end, Forbidden}
use Rattle.hall.specs.Ticks.{SmallestFrom, PermittedBy, Tables, pair_of, PermittedAt, StartTicks}
use Rattle.hall.specs.Ticks.{goal_tick, last_tick, latest}
use Rattle.hall.specs.Path.{At, Meet, Cross}
use Rattle.hall.specs.Safety.{Apart, Demand3}
use Rattle.hall.specs.NoDwell.{PlainForbidden, PlainStartTicks, PlainAt, PlainMeet, PlainCross, PlainApart}
use Rattle.hall.specs.NoDwell.{PlainDemand3}
use Rattle.hall.proofs.Ints.{up_neg, down_neg, le_law}
use Rattle.hall.proofs.Rules.{lead_i_law, lead_j_law, low_law, high_law}

-- ---- the rule

-- what is permitted alike has one smallest
smallest_both : {from x : ℕ} {A B : ℕ → Type 0} → ((y : ℕ) → A y → B y) → ((y : ℕ) → B y → A y)
    → SmallestFrom from A x → SmallestFrom from B x
smallest_both {x = x} f g s =
    record { not_before = s.not_before; permitted = f x s.permitted; least = λ y l b. s.least y l (g y b) }

module _ (p : Pair) (D : ℤ) where
  low_plain : (low_end 0 p ≤ℤ D) ↔ (neg_ℤ (lead_j p) ≤ℤ D)
  low_plain = (
    (λ h. (le_law (neg_ℤ (lead_j p)) D).1
        (omega (arith, (le_law (low_end 0 p) D).0 h, low_law p 0, lead_j_law p, up_neg (lead_j p), down_neg (lead_j p)))),
    λ h. (le_law (low_end 0 p) D).1
        (omega (arith, (le_law (neg_ℤ (lead_j p)) D).0 h, low_law p 0, lead_j_law p, up_neg (lead_j p), down_neg (lead_j p))),
  )

  high_plain : (D ≤ℤ high_end 0 p) ↔ (D ≤ℤ lead_i p)
  high_plain = (
    (λ h. (le_law D (lead_i p)).1 (omega (arith, (le_law D (high_end 0 p)).0 h, high_law p 0, lead_i_law p))),
    λ h. (le_law D (high_end 0 p)).1 (omega (arith, (le_law D (lead_i p)).0 h, high_law p 0, lead_i_law p)),
  )

  pub forbidden_plain : Forbidden 0 p D ↔ PlainForbidden p D
  forbidden_plain = (
    (λ f. record {
      joined = f.joined;
      gap_not_above = f.gap_not_above;
      low = low_plain.0 f.low;
      high = high_plain.0 f.high;
      not_excepted = f.not_excepted refl;
    }),
    λ f. record {
      joined = f.joined;
      gap_not_above = f.gap_not_above;
      low = low_plain.1 f.low;
      high = high_plain.1 f.high;
      not_excepted = λ z. f.not_excepted;
    },
  )

-- ---- start ticks

module _ (t : Tables) (order : List ℕ) (tick : ℕ → ℕ) where
  -- tick x is permitted to the carrier at place q, by the plain rule
  abbrev PlainPermitted : ℕ → ℕ → Type 0
  PlainPermitted q x = (p : ℕ) → p < q →
      ¬ PlainForbidden (pair_of t (get_or order p 0) (get_or order q 0)) (pos x -ℤ pos (tick (get_or order p 0)))

  there : (q x : ℕ) → PermittedAt 0 t order tick q x → PlainPermitted q x
  unfolding PermittedBy
  there q x all p l f = all p l ((forbidden_plain _ _).1 f)

  back : (q x : ℕ) → PlainPermitted q x → PermittedAt 0 t order tick q x
  unfolding PermittedBy
  back q x all p l f = all p l ((forbidden_plain _ _).0 f)

  pub start_ticks_plain : StartTicks 0 t order tick ↔ PlainStartTicks t order tick
  start_ticks_plain = (
    (λ s. record { smallest = λ q l. smallest_both (there q) (back q) (s.smallest q l) }),
    λ s. record { smallest = λ q l. smallest_both (back q) (there q) (s.smallest q l) },
  )

-- ---- a carrier at a tick

module _ {l : List ℕ} {t : ℕ} where
  plain_at : {x v : ℕ} → At 0 l t x v → PlainAt l t x v
  plain_at h = record {
    gone = h.gone;
    time = omega (arith, h.time, h.within_dwell);
    present = h.present;
    node = h.node;
  }

  at_plainly : {x v : ℕ} → PlainAt l t x v → At 0 l t x v
  at_plainly h = record {
    gone = h.gone;
    stood = 0;
    time = omega (arith, h.time);
    present = h.present;
    waits_at_goal = inl refl;
    within_dwell = zero-le;
    node = h.node;
  }

pub at_plain : (l : List ℕ) (t x v : ℕ) → At 0 l t x v ↔ PlainAt l t x v
at_plain l t x v = (plain_at, at_plainly)

module _ (a : List ℕ) (ta : ℕ) (b : List ℕ) (tb : ℕ) where
  pub meet_plain : Meet 0 a ta b tb ↔ PlainMeet a ta b tb
  meet_plain = (
    (λ m. record { tick = m.tick; node = m.node; first = plain_at m.first; second = plain_at m.second }),
    λ m. record { tick = m.tick; node = m.node; first = at_plainly m.first; second = at_plainly m.second },
  )

  pub cross_plain : Cross 0 a ta b tb ↔ PlainCross a ta b tb
  cross_plain = (
    (λ c. record {
      tick = c.tick;
      node = c.node;
      other = c.other;
      different = c.different;
      first_before = plain_at c.first_before;
      first_after = plain_at c.first_after;
      second_before = plain_at c.second_before;
      second_after = plain_at c.second_after;
    }),
    λ c. record {
      tick = c.tick;
      node = c.node;
      other = c.other;
      different = c.different;
      first_before = at_plainly c.first_before;
      first_after = at_plainly c.first_after;
      second_before = at_plainly c.second_before;
      second_after = at_plainly c.second_after;
    },
  )

apart_plain : (path : ℕ → List ℕ) (tick : ℕ → ℕ) (i j : ℕ) → Apart 0 path tick i j ↔ PlainApart path tick i j
apart_plain path tick i j =
    let m = meet_plain (path i) (tick i) (path j) (tick j) in
    let c = cross_plain (path i) (tick i) (path j) (tick j) in (
      (λ h. ((λ x. h.0 (m.1 x)), λ x. h.1 (c.1 x))),
      λ h. ((λ x. h.0 (m.0 x)), λ x. h.1 (c.0 x)),
    )

-- ---- demand 3

-- the latest last tick without dwell is the latest goal tick
latest_plain : (order : List ℕ) (t : Tables) (tick : ℕ → ℕ) (q : ℕ)
    → latest order (last_tick 0 t tick) q ≡ latest order (goal_tick t tick) q
unfolding latest
latest_plain order t tick zero = refl
latest_plain order t tick (suc q) = let e = latest_plain order t tick q in omega arith

module _ (F : Floor) (k : ℕ) (start goal : ℕ → ℕ) (t : Tables) (order : List ℕ) (tick : ℕ → ℕ) (path : ℕ → List ℕ) where
  plainly : Demand3 F 0 k start goal t order tick path → PlainDemand3 F k start goal t order tick path
  plainly d = record {
    apart = λ i j hi hj e. (apart_plain path tick i j).0 (d.apart i j hi hj e);
    distances = d.distances;
    at_goal = λ i h. plain_at (d.at_goal i h (goal_tick t tick i) (omega arith) (omega arith));
    only_then = λ i h x a. let b = d.only_then i h x (at_plainly a) in omega arith;
    present = λ i h x a b. let v = d.present i h x a (omega arith) in (v.0, plain_at v.1);
    absent = λ i h x v a. let b = d.absent i h x v (at_plainly a) in (b.0, omega arith);
    first_at_0 = d.first_at_0;
    bound = λ q h. omega (arith, d.bound q h, latest_plain order t tick q);
  }

  dwelling : PlainDemand3 F k start goal t order tick path → Demand3 F 0 k start goal t order tick path
  dwelling d = record {
    apart = λ i j hi hj e. (apart_plain path tick i j).1 (d.apart i j hi hj e);
    distances = d.distances;
    at_goal = λ i h x a b.
        let e : goal_tick t tick i ≡ x = omega arith in
        rw e at (at_plainly (d.at_goal i h));
    only_then = λ i h x a. let b = d.only_then i h x (plain_at a) in (omega arith, omega arith);
    present = λ i h x a b. let v = d.present i h x a (omega arith) in (v.0, at_plainly v.1);
    absent = λ i h x v a. let b = d.absent i h x v (plain_at a) in (b.0, omega arith);
    first_at_0 = d.first_at_0;
    bound = λ q h. omega (arith, d.bound q h, latest_plain order t tick q);
  }

  pub demand3_plain : Demand3 F 0 k start goal t order tick path ↔ PlainDemand3 F k start goal t order tick path
  demand3_plain = (plainly, dwelling)
