-- The held list with a carrier written at a place: what stands there is the carrier, what stands at other
-- places is as it was, and the list is as long as it was. Lists that agree at a place hold the same carrier
-- there, and the other way round. Where the list has the place, `hold` writes it. Assumes nothing.
use mathlib.Core.Path.{◌≡◌, ◌∙◌, ap}
use mathlib.Core.Logic.{◌≢◌}
use mathlib.Core.Bool.{Bool, true, false}
use mathlib.Core.List.{List}
use Prim.Native.Nat.{ℕ, ◌<◌}
use native.Mathlib.Omega.{arith}
use lib.ListN.{length, length-set}
use lib.Seq.{get_or-set_same, get_or-set_other}
use Rattle.hall.specs.Rule.{Pair}
use Rattle.rule.specs.declared.Held.{Held}
use Rattle.rule.specs.Held.{pair_in, nobody, held_as, held_at, held_tick, held_pair, held_with, Holding}
use Rattle.rule.proofs.Carry.{held_tick_is}

-- ---- lists that agree at a place

module _ (l m : List Held) (q : ℕ) (same : held_at l q ≡ held_at m q) where
  pub tick_same : held_tick l q ≡ held_tick m q
  unfolding held_tick
  tick_same = ap (λ (h : Held). h.tick) same

  pub pair_same : held_pair l q ≡ held_pair m q
  unfolding held_pair
  pair_same = ap (λ (h : Held). pair_in h.pair) same

-- ---- lists that hold the same carrier at a place

module _ (l m : List Held) (q : ℕ) (tick : held_tick l q ≡ held_tick m q) (pair : held_pair l q ≡ held_pair m q) where
  pub numbers_same : held_at l q ≡ held_at m q
  unfolding held_tick held_pair
  numbers_same =
      ap (λ (n : ℕ). held_as n (held_pair l q)) tick ∙ ap (held_as (held_tick m q)) pair

-- ---- a carrier written at a place

pub held_length : (l : List Held) (place tick : ℕ) (p : Pair) → length (held_with l place tick p) ≡ length l
unfolding held_with
held_length l place tick p = length-set l place (held_as tick p)

module _ (l : List Held) (place tick : ℕ) (p : Pair) (fits : place < length l) where
  here : held_at (held_with l place tick p) place ≡ held_as tick p
  unfolding held_with
  here = get_or-set_same l place (held_as tick p) nobody fits

  pub held_tick_lem : held_tick (held_with l place tick p) place ≡ tick
  held_tick_lem = held_tick_is (held_with l place tick p) place tick (ap (λ (h : Held). h.tick) here)

  pub held_pair_lem : held_pair (held_with l place tick p) place ≡ p
  unfolding held_pair
  held_pair_lem = ap (λ (h : Held). pair_in h.pair) here

module _ (l : List Held) (place tick : ℕ) (p : Pair) (q : ℕ) (other : q ≢ place) where
  pub other_same : held_at (held_with l place tick p) q ≡ held_at l q
  unfolding held_with
  other_same = get_or-set_other l place q (held_as tick p) nobody other

module _ (l : List Held) (place tick : ℕ) (p : Pair) (q : ℕ) (before : q < place) where
  earlier : held_at (held_with l place tick p) q ≡ held_at l q
  earlier = other_same l place tick p q (λ e. omega arith)

  pub earlier_tick : held_tick (held_with l place tick p) q ≡ held_tick l q
  earlier_tick = tick_same (held_with l place tick p) l q earlier

  pub earlier_pair : held_pair (held_with l place tick p) q ≡ held_pair l q
  earlier_pair = pair_same (held_with l place tick p) l q earlier

module _ (l : List Held) (place tick : ℕ) (p : Pair) where
  -- what stands behind the place
  pub later : (k : ℕ) → place < k → held_at (held_with l place tick p) k ≡ held_at l k
  later k h = other_same l place tick p k (λ e. omega arith)

  -- what is served is written
  pub holding_written : (l' : List Held) (r : Bool)
      → place < length l → Holding l l' place tick p r → l' ≡ held_with l place tick p
  holding_written l' true h a = a.written
  holding_written l' false h a = absurd (a.unserved h)
