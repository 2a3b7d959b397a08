-- Where the stretch of one held carrier ends, as a number: the high end where there is no dwell and the
-- exception (rule 4.8) holds there, the tick after it where it does not. From a forbidden tick this is the
-- first free one (`Stretch`). So it lies after every tick that is held up, and by every tick from which all
-- are free. Assumes nothing.
use mathlib.Core.Path.{◌≡◌, subst}
use mathlib.Core.Logic.{inr}
use Prim.Native.Nat.{ℕ, ◌+◌, ◌-◌, ◌%◌, ◌≤◌, ◌<◌}
use native.Mathlib.Nat.{le_refl}
use native.Mathlib.Decide.{dec_lt, dec_le, ℕ_discrete}
use native.Mathlib.Omega.{arith}
use Rattle.hall.specs.Rule.{Pair, Forbidden⁺}
use Rattle.hall.specs.Ticks.{SmallestFrom}
use Rattle.hall.proofs.Rules.{forbidden_iff}
use Rattle.rule.proofs.Stretch.{Free, free_after_last, free_at_last}

-- the high end where there is no dwell, the gap is 0 and the parity odd, else the next tick
ends_by : {A B C : Type 0} → Dec A → Dec B → Dec C → ℕ → ℕ
ends_by (yes no-dwell) (yes gap_zero) (yes odd) last = last
ends_by (yes no-dwell) (yes gap_zero) (no even) last = last + 1
ends_by (yes no-dwell) (no gap_below) parity last = last + 1
ends_by (no dwell) gap parity last = last + 1

module _ (w : ℕ) (p : Pair) (ti : ℕ) where
  abbrev last : ℕ
  last = ti + p.ii + w - p.ji

  pub stretch_end : ℕ
  stretch_end =
      ends_by (ℕ_discrete w 0) (ℕ_discrete (p.ss + p.gg) (p.ii + p.jj)) (ℕ_discrete ((ti + last + p.ss) % 2) 1) last

  pub stretch_end_free : (t : ℕ) → Forbidden⁺ w p ti t → SmallestFrom t (Free w p ti) stretch_end
  unfolding stretch_end ends_by
  stretch_end_free t f =
      cases (ℕ_discrete w 0) (ℕ_discrete (p.ss + p.gg) (p.ii + p.jj)) (ℕ_discrete ((ti + last + p.ss) % 2) 1)
    where
      at_end : last + p.ji ≡ ti + p.ii + w
      at_end = omega (arith, f.high)

      cases : (z : Dec (w ≡ 0)) (a : Dec (p.ss + p.gg ≡ p.ii + p.jj)) (b : Dec ((ti + last + p.ss) % 2 ≡ 1))
          → SmallestFrom t (Free w p ti) (ends_by z a b last)
      cases (yes z) (yes a) (yes b) =
          free_at_last w p ti t last f at_end z
          (record { gap_zero = a; at_an_end = inr (omega (arith, at_end)); odd = b })
      cases (yes z) (yes a) (no b) = free_after_last w p ti t last f at_end (λ _ e. b e.odd)
      cases (yes z) (no a) b = free_after_last w p ti t last f at_end (λ _ e. a e.gap_zero)
      cases (no z) a b = free_after_last w p ti t last f at_end (λ zero e. z zero)

  module _ (t x : ℕ) (held_up : ¬ Free w p ti t) (free_on : (y : ℕ) → x ≤ y → Free w p ti y) where
    pub end_after : t < stretch_end
    end_after = cases (dec_lt t stretch_end)
      where
        not_by : stretch_end ≤ t → Free w p ti t
        not_by h f =
            let s = stretch_end_free t ((forbidden_iff w p ti t).0 f) in
            let e : stretch_end ≡ t = omega (arith, s.not_before) in subst (Free w p ti) e s.permitted f

        cases : Dec (t < stretch_end) → t < stretch_end
        cases (yes h) = h
        cases (no h) = absurd (held_up (not_by (omega arith)))

    pub end_by : stretch_end ≤ x
    end_by = cases (dec_le stretch_end x)
      where
        not_after : x < stretch_end → Dec (x ≤ t) → Free w p ti t
        not_after h (yes l) f = free_on t l f
        not_after h (no l) f =
            let s = stretch_end_free t ((forbidden_iff w p ti t).0 f) in
            let k = s.least x (omega arith) (free_on x (le_refl x)) in omega arith

        cases : Dec (stretch_end ≤ x) → stretch_end ≤ x
        cases (yes h) = h
        cases (no h) = absurd (held_up (not_after (omega arith) (dec_le x t)))
