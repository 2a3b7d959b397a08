-- A lane list as a loop passes it, two numbers at a step. The lane at an even place i joins the two numbers
-- at i and i + 1, either way round. And a lane that begins before place i + 2 begins before i, or at i, and
-- then its ends are those two numbers. So what is known of the lanes before i, and is found out about the two
-- numbers at i in both directions, is known of the lanes before i + 2. Assumes nothing.
--     lane_at, lane_back_at    from the numbers at an even place to the lane that has them
--     LaneBefore               a lane k that joins a and b: before place i, or at i, one way round or the
--                              other
--     lane_before              every lane that begins before i + 2 is one of these
use mathlib.Core.Path.{◌≡◌}
use mathlib.Core.Logic.{◌⊎◌, inl, inr}
use mathlib.Core.List.{List}
use Prim.Native.Nat.{ℕ, ◌+◌, ◌*◌, ◌/◌, ◌%◌, ◌<◌}
use native.Mathlib.Decide.{dec_lt}
use native.Mathlib.Omega.{arith}
use lib.ListN.{length, get_or}
use Rattle.hall.specs.Floor.{Lane, lower, higher}

pub data LaneBefore (lanes : List ℕ) (a b i k : ℕ) : Type 0 where
  earlier : 2 * k < i → LaneBefore lanes a b i k
  forth : get_or lanes i 0 ≡ a → get_or lanes (i + 1) 0 ≡ b → LaneBefore lanes a b i k
  back : get_or lanes i 0 ≡ b → get_or lanes (i + 1) 0 ≡ a → LaneBefore lanes a b i k

half : (i : ℕ) → i % 2 ≡ 0 → 2 * (i / 2) ≡ i
half i e = omega arith

module _ (lanes : List ℕ) {a b : ℕ} (i : ℕ) (even : i % 2 ≡ 0) where
  module _ (inside : i + 1 < length lanes) where
    pub lane_at : get_or lanes i 0 ≡ a → get_or lanes (i + 1) 0 ≡ b → Lane lanes a b
    lane_at x y = record { k = i / 2; inside = omega arith; ends = inl (rw (half i even) (x, y)) }

    pub lane_back_at : get_or lanes i 0 ≡ b → get_or lanes (i + 1) 0 ≡ a → Lane lanes a b
    lane_back_at x y = record { k = i / 2; inside = omega arith; ends = inr (rw (half i even) (x, y)) }

  pub lane_before : (l : Lane lanes a b) → 2 * l.k < i + 2 → LaneBefore lanes a b i l.k
  lane_before l h = cases (dec_lt (2 * l.k) i) l.ends
    where
      here : ¬ (2 * l.k < i) → 2 * l.k ≡ i
      here n = omega arith

      cases : Dec (2 * l.k < i)
          → ((lower lanes l.k ≡ a) × (higher lanes l.k ≡ b))
          ⊎ ((lower lanes l.k ≡ b) × (higher lanes l.k ≡ a))
          → LaneBefore lanes a b i l.k
      cases (yes m) e = earlier m
      cases (no n) (inl e) = let x = rw (here n) at e in forth x.0 x.1
      cases (no n) (inr e) = let x = rw (here n) at e in back x.0 x.1
