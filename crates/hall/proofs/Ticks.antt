-- What follows of start ticks by an order, whatever the tables and the dwell: the first starts at 0, the
-- bound, the limits, and uniqueness. The bound: one tick after the latest last tick so far is past every
-- stretch, so the smallest permitted tick is not later. The limits: so each carrier starts at most 1,024 + w
-- ticks later than the latest before it. Uniqueness: by induction over the places, since the ticks before a
-- place decide which ticks are permitted at it. Assumes nothing.
use mathlib.Core.Path.{◌≡◌, sym, subst}
use mathlib.Core.List.{List}
use Prim.Native.Nat.{ℕ, zero, suc, ◌+◌, ◌*◌, ◌≤◌, ◌<◌, max, zero-le}
use native.Mathlib.Nat.{le_antisymm, not-suc-le-zero, le_refl, mul-suc, mul-le-mul_left}
use native.Mathlib.Decide.{dec_lt}
use native.Mathlib.Omega.{arith}
use lib.ListN.{length, get_or}
use lib.IntN.{pos, ◌-ℤ◌}
use Rattle.hall.specs.Limits.{distance_limit, node_limit, carrier_limit, start_limit, goal_limit}
use Rattle.hall.specs.Rule.{Pair, Permitted, Forbidden⁺}
use Rattle.hall.specs.Ticks.{SmallestFrom, PermittedBy, Tables, own, pair_of, PermittedAt, StartTicks}
use Rattle.hall.specs.Ticks.{goal_tick, last_tick, latest, total}
use Rattle.hall.proofs.Rules.{forbidden_iff}
use Rattle.hall.proofs.Pigeon.{all_listed}

-- a tick past i's last tick is permitted
pub past_last : (w : ℕ) (p : Pair) (ti tj : ℕ) → ti + p.ii + w < tj → Permitted w p (pos tj -ℤ pos ti)
past_last w p ti tj h f = let g : Forbidden⁺ w p ti tj = (forbidden_iff w p ti tj).0 f in omega arith

pub smallest_unique : {from x y : ℕ} {Permits : ℕ → Type 0} → SmallestFrom from Permits x → SmallestFrom from Permits y → x ≡ y
smallest_unique {x = x} {y = y} s u = le_antisymm (s.least y u.not_before u.permitted) (u.least x s.not_before s.permitted)

-- ---- the latest tick of the carriers before a place

module _ (order : List ℕ) (tick : ℕ → ℕ) where
  more : (q p : ℕ) → (p < q → tick (get_or order p 0) ≤ latest order tick q) → p < suc q → Dec (p < q)
      → tick (get_or order p 0) ≤ max (latest order tick q) (tick (get_or order q 0))
  more q p before h (yes l) = let k = before l in omega arith
  more q p before h (no l) = let e : p ≡ q = omega arith in rw e (omega arith)

  pub latest_bounds : (q p : ℕ) → p < q → tick (get_or order p 0) ≤ latest order tick q
  unfolding latest
  latest_bounds zero p h = absurd (not-suc-le-zero h)
  latest_bounds (suc q) p h = more q p (latest_bounds q p) h (dec_lt p q)

-- ---- the bound and the limits

-- so many steps to an earlier place, and one more, are no more than to a later one
pub earlier_steps : (s p q : ℕ) → p < q → s * p + s ≤ s * q
earlier_steps s p q l = rw mul-suc at (mul-le-mul_left s l)

module _ (w : ℕ) (t : Tables) (order : List ℕ) where
  abbrev at : ℕ → ℕ
  at q = get_or order q 0

  module _ (tick : ℕ → ℕ) (s : StartTicks w t order tick) where
    -- rule 5.1
    pub first_at_zero : 0 < length order → tick (at 0) ≡ 0
    unfolding PermittedBy
    first_at_zero h = le_antisymm ((s.smallest 0 h).least 0 zero-le (λ p l. absurd (not-suc-le-zero l))) zero-le

    -- no carrier starts later than one tick after the latest last tick among those before it
    pub tick_bound : (q : ℕ) → q < length order → tick (at q) ≤ latest order (last_tick w t tick) q + 1
    unfolding PermittedBy
    tick_bound q h = (s.smallest q h).least (latest order (last_tick w t tick) q + 1) zero-le (λ p l.
        past_last w (pair_of t (at p) (at q)) (tick (at p)) (latest order (last_tick w t tick) q + 1)
        (omega (arith, latest_bounds order (last_tick w t tick) q p l)))

    module _ (small : (q : ℕ) → q < length order → own t (at q) ≤ distance_limit) where
      -- the carrier at place q starts at tick (1,024 + w) q at the latest; n bounds the place
      small_before : (n q : ℕ) → q < n → q < length order → tick (at q) ≤ (node_limit + w) * q
      unfolding PermittedBy
      small_before zero q h l = absurd (not-suc-le-zero h)
      small_before (suc n) q h l = (s.smallest q l).least ((node_limit + w) * q) zero-le (λ p k.
          past_last w (pair_of t (at p) (at q)) (tick (at p)) ((node_limit + w) * q)
          (omega (arith, small p (omega arith), small_before n p (omega arith) (omega arith), earlier_steps (node_limit + w) p q k)))

      pub tick_limit : length order ≤ carrier_limit → (q : ℕ) → q < length order
          → (tick (at q) ≤ start_limit w) × (goal_tick t tick (at q) ≤ goal_limit w)
      tick_limit k q l =
          let b = small_before (suc q) q (le_refl (suc q)) l in
          let o = small q l in
          let m : (node_limit + w) * q ≤ start_limit w = mul-le-mul_left (node_limit + w) (omega arith) in
          (omega arith, omega arith)

  -- ---- uniqueness

  pub carry : (u v : ℕ → ℕ) (q x : ℕ) → ((p : ℕ) → p < q → u (at p) ≡ v (at p)) → PermittedAt w t order u q x → PermittedAt w t order v q x
  unfolding PermittedBy
  carry u v q x e f p l = rw (e p l) at (f p l)

  module _ (tick tick' : ℕ → ℕ) (s : StartTicks w t order tick) (s' : StartTicks w t order tick') where
    -- n bounds the place
    same_before : (n q : ℕ) → q < n → q < length order → tick (at q) ≡ tick' (at q)
    same_before zero q h l = absurd (not-suc-le-zero h)
    same_before (suc n) q h l =
        le_antisymm
        ((s.smallest q l).least (tick' (at q)) zero-le (carry tick' tick q (tick' (at q)) (λ p k. sym (same_before n p (omega arith) (omega arith))) (s'.smallest q l).permitted))
        ((s'.smallest q l).least (tick (at q)) zero-le (carry tick tick' q (tick (at q)) (λ p k. same_before n p (omega arith) (omega arith)) (s.smallest q l).permitted))

    pub ticks_unique : (q : ℕ) → q < length order → tick (at q) ≡ tick' (at q)
    ticks_unique q l = same_before (suc q) q (le_refl (suc q)) l

    -- and for every carrier, where the order lists k different carriers
    pub ticks_unique_all : ((i : ℕ) → i < length order → at i < length order) → ((i j : ℕ) → i < length order → j < length order → at i ≡ at j → i ≡ j)
        → (c : ℕ) → c < length order → tick c ≡ tick' c
    ticks_unique_all below different c h = let f = all_listed (length order) at below different c h in subst (λ (x : ℕ). tick x ≡ tick' x) f.is (ticks_unique f.place f.inside)

-- ---- sums

pub total_same : (k : ℕ) (f g : ℕ → ℕ) → ((i : ℕ) → i < k → f i ≡ g i) → total k f ≡ total k g
unfolding total
total_same zero f g e = omega arith
total_same (suc k) f g e = let r = total_same k f g (λ i h. e i (omega arith)) in let q = e k (omega arith) in omega arith

pub total_limit : (k : ℕ) (f : ℕ → ℕ) (b : ℕ) → ((i : ℕ) → i < k → f i ≤ b) → total k f ≤ k * b
unfolding total
total_limit zero f b h = zero-le
total_limit (suc k) f b h = let r = total_limit k f b (λ i l. h i (omega arith)) in let q = h k (omega arith) in rw native.Mathlib.Nat.suc-mul (omega arith)
