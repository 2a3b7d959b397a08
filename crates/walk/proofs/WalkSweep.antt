-- One sweep, lane by lane. A look at a lane leaves it calm and lets labels only fall, so a lane stays calm
-- until a label falls elsewhere; the lanes that were looked at since a label fell last are calm at the end,
-- and they are the ones that the next sweep, coming from that side, leaves out. Assumes nothing.
--     lanes_left_sum      a lane is among those left there and back, each other lane in one of the two
--     lanes_left_some     a lane is among those left when the sweep comes to it
--     lanes_left_same     two lanes have different numbers of lanes left
--     lanes_left_at       the lane that a sweep comes to with so many left
--     Sweeping            a sweep that has `rest` lanes left
--     sweeping_look       a look at one lane
use mathlib.Core.Path.{◌≡◌}
use mathlib.Core.Logic.{◌⊎◌, inl, inr}
use mathlib.Core.Bool.{Bool, true, false, not, cond}
use mathlib.Core.List.{List}
use Prim.Native.Nat.{ℕ, ◌+◌, ◌-◌, ◌≤◌, ◌<◌}
use native.Mathlib.Decide.{dec_lt}
use native.Mathlib.Omega.{arith}
use lib.ListN.{length, get_or}
use Rattle.hall.specs.Limits.{no_walk_mark}
use Rattle.hall.specs.Floor.{Lane, lanes_in, lower, higher}
use Rattle.walk.specs.Sweep.{Near, NearAt, Looked, kept, second_fell, first_fell, lanes_left, OnlyFell, Fell}
use Rattle.walk.proofs.WalkFalls.{lowered, lowered_new, lowered_fallen, lowered_calm, only_fell_then, only_fell_lowered, lane_up, lane_down}

-- ---- how many lanes are left

pub lanes_left_sum : (count : ℕ) (back : Bool) (k : ℕ) → k < count → lanes_left count back k + lanes_left count (not back) k ≡ count + 1
lanes_left_sum count false k h = omega arith
lanes_left_sum count true k h = omega arith

pub lanes_left_some : (count : ℕ) (back : Bool) (k : ℕ) → k < count → 0 < lanes_left count back k
lanes_left_some count false k h = omega arith
lanes_left_some count true k h = omega arith

pub lanes_left_same : (count : ℕ) (back : Bool) (j k : ℕ) → j < count → k < count → lanes_left count back j ≡ lanes_left count back k → j ≡ k
lanes_left_same count false j k h i e = omega arith
lanes_left_same count true j k h i e = omega arith

pub lanes_left_at : (count : ℕ) (back : Bool) (rest k : ℕ) → 0 < rest → rest ≤ count → ((back ≡ true) × (k ≡ rest - 1)) ⊎ ((back ≡ false) × (k ≡ count - rest)) → (k < count) × (lanes_left count back k ≡ rest)
lanes_left_at count back rest k h i (inl e) = (omega (arith, e.1), rw e.0 (omega (arith, e.1)))
lanes_left_at count back rest k h i (inr e) = (omega (arith, e.1), rw e.0 (omega (arith, e.1)))

turned : {row left : List ℕ} {a b : ℕ} → Near row left a b → Near row left b a
turned n = record { second = n.first; first = n.second }

-- ---- a sweep

pub record Sweeping (nodes : ℕ) (lanes : List ℕ) (back : Bool) (row now : List ℕ) (rest next : ℕ) : Type 0 where
  -- labels of nodes fall, to lengths of walks, and nothing else changes
  pub only : OnlyFell nodes lanes row now
  -- the lanes that were looked at, or were left out
  pub near : (k : ℕ) → k < lanes_in lanes → rest < lanes_left (lanes_in lanes) back k → NearAt nodes lanes row now k
  -- those of them that were so since a label fell last
  pub calm : (k : ℕ) → k < lanes_in lanes → rest < lanes_left (lanes_in lanes) back k → lanes_left (lanes_in lanes) back k + next ≤ lanes_in lanes → NearAt nodes lanes now now k
  -- the lanes left and those that the next sweep has are different ones
  pub few : rest + next ≤ lanes_in lanes
  pub fell : 0 < next → Fell row now

-- ---- a look at one lane

-- labels only fell from row to now, so a calm lane is near
calm_near : (nodes : ℕ) (lanes : List ℕ) {row now : List ℕ} → ((v : ℕ) → get_or now v 0 ≤ get_or row v 0) → (k : ℕ) → NearAt nodes lanes now now k → NearAt nodes lanes row now k
calm_near nodes lanes fallen k calm h i x y =
    let n = calm h i (omega (arith, fallen (lower lanes k))) (omega (arith, fallen (higher lanes k))) in
    record {
      second = omega (arith, n.second, fallen (lower lanes k));
      first = omega (arith, n.first, fallen (higher lanes k));
    }

-- near is near where the labels fall once more
near_fallen : (nodes : ℕ) (lanes : List ℕ) {row now now' : List ℕ} → ((v : ℕ) → get_or now' v 0 ≤ get_or now v 0) → (k : ℕ) → NearAt nodes lanes row now k → NearAt nodes lanes row now' k
near_fallen nodes lanes fallen k near h i x y =
    let n = near h i x y in
    record {
      second = omega (arith, n.second, fallen (higher lanes k));
      first = omega (arith, n.first, fallen (lower lanes k));
    }

-- the sweep comes to lane k, with `rest` lanes left, that one included
module _ {nodes : ℕ} {lanes : List ℕ} {back : Bool} {row now : List ℕ} {rest next : ℕ} (s : Sweeping nodes lanes back row now rest next) (some : 0 < rest) (k : ℕ) (inside_list : k < lanes_in lanes)
    (comes : lanes_left (lanes_in lanes) back k ≡ rest) where
  -- what holds at lane k and at those before it
  looked_at : (P : ℕ → Type 0) → P k → (j : ℕ) → j < lanes_in lanes → rest - 1 < lanes_left (lanes_in lanes) back j → (rest < lanes_left (lanes_in lanes) back j → P j) → P j
  looked_at P p j h i q = cases (dec_lt rest (lanes_left (lanes_in lanes) back j))
    where
      cases : Dec (rest < lanes_left (lanes_in lanes) back j) → P j
      cases (yes d) = q d
      cases (no d) = rw (lanes_left_same (lanes_in lanes) back j k h inside_list (omega arith)) p

  look_kept : NearAt nodes lanes now now k → Sweeping nodes lanes back row now (rest - 1) next
  look_kept calm = record {
    only = s.only;
    near = λ j h i. looked_at (NearAt nodes lanes row now) (calm_near nodes lanes s.only.fallen k calm) j h i (s.near j h);
    calm = λ j h i few. looked_at (NearAt nodes lanes now now) calm j h i (λ d. s.calm j h d few);
    few = omega (arith, s.few);
    fell = s.fell;
  }

  -- from one end of lane k, a, to the other
  look_fell : nodes ≤ length row → (a b : ℕ) → a < nodes → b < nodes → Lane lanes a b → get_or now a 0 + 1 < get_or now b 0 → get_or now b 0 < no_walk_mark
      → (Near (lowered now a b) (lowered now a b) a b → NearAt nodes lanes (lowered now a b) (lowered now a b) k)
      → Sweeping nodes lanes back row (lowered now a b) (rest - 1) (lanes_in lanes - rest)
  look_fell wide₀ a b a-node b-node lane less below at_k = record {
    only = only;
    near = λ j h i. looked_at (NearAt nodes lanes row (lowered now a b)) (calm_near nodes lanes only.fallen k calm) j h i (λ d. near_fallen nodes lanes lower_now j (s.near j h d));
    calm = λ j h i few. looked_at (NearAt nodes lanes (lowered now a b) (lowered now a b)) calm j h i (λ d. absurd (let z : ⊥ = omega (arith, few, s.few) in z));
    few = omega (arith, s.few);
    fell = λ h. record { node = b; less = omega (arith, less, s.only.fallen b, lowered_new nodes now wide a b b-node less) };
  }
    where
      wide : nodes ≤ length now
      wide = omega (arith, s.only.size)

      lower_now : (v : ℕ) → get_or (lowered now a b) v 0 ≤ get_or now v 0
      lower_now = lowered_fallen nodes now wide a b b-node less

      only : OnlyFell nodes lanes row (lowered now a b)
      only = only_fell_then s.only (only_fell_lowered wide a b a-node b-node lane less below)

      calm : NearAt nodes lanes (lowered now a b) (lowered now a b) k
      calm = at_k (lowered_calm nodes now wide a b b-node less)

  pub sweeping_look : nodes ≤ length row → {now' : List ℕ} {r : Bool} {next' : ℕ} → Looked nodes (lower lanes k) (higher lanes k) now now' r
      → next' ≡ cond r (lanes_in lanes - rest) next → Sweeping nodes lanes back row now' (rest - 1) next'
  sweeping_look wide (kept calm e) n = rw (e, n) (look_kept calm)
  sweeping_look wide (second_fell h i less below e) n =
      rw (e, n) (look_fell wide (lower lanes k) (higher lanes k) h i (lane_up lanes k inside_list) less below (λ near _ _ _ _. near))
  sweeping_look wide (first_fell h i less below e) n =
      rw (e, n) (look_fell wide (higher lanes k) (lower lanes k) i h (lane_down lanes k inside_list) less below (λ near _ _ _ _. turned near))
