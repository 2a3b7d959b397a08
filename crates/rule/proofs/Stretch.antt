-- The ticks that one held carrier forbids are an unbroken stretch (rule 4.7), so a forbidden tick is left in
-- one jump. After a forbidden tick no tick lies at the low end, so the exception (rule 4.8), which there is
-- without dwell only, can hold at the high end alone: there the stretch stops one tick earlier. Every tick
-- past the high end is permitted. Hence the smallest permitted tick is the high end itself where the
-- exception holds, and the tick after it where it does not. Assumes nothing.
use mathlib.Core.Path.{◌≡◌}
use mathlib.Core.Logic.{inl, inr}
use Prim.Native.Nat.{ℕ, ◌+◌, ◌≤◌, ◌<◌}
use native.Mathlib.Nat.{le_refl}
use native.Mathlib.Decide.{dec_lt}
use native.Mathlib.Omega.{arith}
use lib.IntN.{pos, ◌-ℤ◌}
use Rattle.hall.specs.Rule.{Pair, Permitted, Forbidden⁺, Excepted⁺}
use Rattle.hall.specs.Ticks.{SmallestFrom}
use Rattle.hall.proofs.Rules.{forbidden_iff}
use Rattle.hall.proofs.Ticks.{past_last}

module _ (w : ℕ) (p : Pair) (ti : ℕ) where
  -- the carrier that starts at ti permits tick x
  abbrev pub Free : ℕ → Type 0
  Free x = Permitted w p (pos x -ℤ pos ti)

  pub free_here : (t : ℕ) → Free t → SmallestFrom t Free t
  free_here t f = record { not_before = le_refl t; permitted = f; least = λ y h g. h }

  -- a tick after a forbidden one is forbidden too, up to the high end and short of the exception there
  pub stretch_unbroken : (t y : ℕ) → Forbidden⁺ w p ti t → t < y → y + p.ji ≤ ti + p.ii + w
      → (w ≡ 0 → y + p.ji ≡ ti + p.ii → Excepted⁺ p ti y → ⊥) → Forbidden⁺ w p ti y
  stretch_unbroken t y f after before none = record {
    joined = f.joined;
    gap_not_above = f.gap_not_above;
    low = omega (arith, f.low);
    high = before;
    not_excepted = not_at_an_end;
  }
    where
      not_at_an_end : w ≡ 0 → Excepted⁺ p ti y → ⊥
      not_at_an_end z e = elim e.at_an_end [ inl h ↦ omega (arith, f.low) | inr h ↦ none z h e ]

  -- no tick from a forbidden one up and before the bound is permitted, if that holds of each tick after it
  stretch_least : (t end : ℕ) → Forbidden⁺ w p ti t → ((y : ℕ) → t < y → y < end → Forbidden⁺ w p ti y)
      → (y : ℕ) → t ≤ y → Free y → end ≤ y
  stretch_least t end f inside y h g = cases (dec_lt y end) (dec_lt t y)
    where
      cases : Dec (y < end) → Dec (t < y) → end ≤ y
      cases (no k) l = omega arith
      cases (yes k) (yes l) = absurd (g ((forbidden_iff w p ti y).1 (inside y l k)))
      cases (yes k) (no l) = let e : t ≡ y = omega arith in absurd (g ((forbidden_iff w p ti y).1 (rw e at f)))

  module _ (t last : ℕ) (f : Forbidden⁺ w p ti t) (at_end : last + p.ji ≡ ti + p.ii + w) where
    -- the exception does not hold at the high end: the next tick is the first that is free
    pub free_after_last : (w ≡ 0 → Excepted⁺ p ti last → ⊥) → SmallestFrom t Free (last + 1)
    free_after_last none = record {
      not_before = omega (arith, f.high);
      permitted = past;
      least = stretch_least t (last + 1) f inside;
    }
      where
        past : Free (last + 1)
        past g = let k = (forbidden_iff w p ti (last + 1)).0 g in omega (arith, k.high)

        inside : (y : ℕ) → t < y → y < last + 1 → Forbidden⁺ w p ti y
        inside y l k =
            stretch_unbroken t y f l (omega arith) (λ z e. let same : y ≡ last = omega arith in rw same (none z))

    -- the exception holds at the high end: that end is free
    pub free_at_last : w ≡ 0 → Excepted⁺ p ti last → SmallestFrom t Free last
    free_at_last z e = record {
      not_before = omega (arith, f.high);
      permitted = excepted;
      least = stretch_least t last f inside;
    }
      where
        excepted : Free last
        excepted g = ((forbidden_iff w p ti last).0 g).not_excepted z e

        inside : (y : ℕ) → t < y → y < last → Forbidden⁺ w p ti y
        inside y l k = stretch_unbroken t y f l (omega arith) (λ zero same. absurd (let x : ⊥ = omega arith in x))

-- a stretch that was left is left for good
pub free_onward : (w : ℕ) (p : Pair) (ti t x : ℕ)
    → SmallestFrom t (Free w p ti) x → t < x → (y : ℕ) → x ≤ y → Free w p ti y
free_onward w p ti t x s h y l f =
    let k =
    s.least t (le_refl t)
    (λ g. held_up ((forbidden_iff w p ti t).0 g) ((forbidden_iff w p ti y).0 f) (dec_lt x y))
    in omega arith
  where
    held_up : Forbidden⁺ w p ti t → Forbidden⁺ w p ti y → Dec (x < y) → ⊥
    held_up g k (yes m) =
        s.permitted
        ((forbidden_iff w p ti x).1
        (stretch_unbroken w p ti t x g h (omega (arith, k.high)) (λ z e n. omega (arith, k.high))))
    held_up g k (no m) = let e : y ≡ x = omega arith in s.permitted (rw e at f)

-- a single held carrier moves a tick no further than one past its own last tick
pub free_bound : (w : ℕ) (p : Pair) (ti : ℕ) {from x : ℕ} (b : ℕ)
    → SmallestFrom from (Free w p ti) x → from ≤ b → ti + p.ii + w < b → x ≤ b
free_bound w p ti b s h l = s.least b h (past_last w p ti b l)
