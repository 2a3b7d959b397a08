-- Computed tests of the pair rule and of start ticks, for any tables and any order. The rule is tested in its
-- form with additions only, which is the same rule (`forbidden_iff`); a tick is the smallest if it is
-- permitted and each tick below it is not. Assumes nothing.
use mathlib.Core.List.{List}
use Prim.Native.Nat.{ℕ, ◌+◌, ◌%◌, ◌≤◌, ◌<◌}
use native.Mathlib.Decide.{dec_le}
use native.Mathlib.Omega.{arith}
use lib.ListN.{length, get_or}
use lib.IntN.{pos, ◌-ℤ◌}
use Rattle.hall.specs.Rule.{Pair, Permitted, Excepted⁺, Forbidden⁺}
use Rattle.hall.specs.Ticks.{SmallestFrom, PermittedBy, Tables, pair_of, StartTicks}
use Rattle.hall.proofs.Rules.{forbidden_iff}
use Rattle.hall.proofs.Test.{Test, le?, eq?, not?, ◌and?◌, ◌or?◌, ◌implies?◌, map?, all?}

-- ---- the rule

abbrev pub excepted? : (p : Pair) (ti tj : ℕ) → Test (Excepted⁺ p ti tj)
excepted? p ti tj =
    map? (λ h. record { gap_zero = h.0; at_an_end = h.1.0; odd = h.1.1 }) (λ e. (e.gap_zero, (e.at_an_end, e.odd)))
    (eq? (p.ss + p.gg) (p.ii + p.jj) and? (eq? (ti + p.ij) (tj + p.jj) or? eq? (tj + p.ji) (ti + p.ii)) and? eq? ((ti + tj + p.ss) % 2) 1)

abbrev pub forbidden? : (w : ℕ) (p : Pair) (ti tj : ℕ) → Test (Forbidden⁺ w p ti tj)
forbidden? w p ti tj =
    map? (λ h. record { joined = h.0; gap_not_above = h.1.0; low = h.1.1.0; high = h.1.1.1.0; not_excepted = h.1.1.1.1 })
    (λ f. (f.joined, (f.gap_not_above, (f.low, (f.high, f.not_excepted)))))
    (not? (eq? p.ss 65535) and? le? (p.ss + p.gg) (p.ii + p.jj)
    and? le? (ti + p.ij) (tj + p.jj + w) and? le? (tj + p.ji) (ti + p.ii + w)
    and? (eq? w 0 implies? not? (excepted? p ti tj)))

abbrev pub permitted? : (w : ℕ) (p : Pair) (ti tj : ℕ) → Test (Permitted w p (pos tj -ℤ pos ti))
permitted? w p ti tj =
    map? (λ h f. h ((forbidden_iff w p ti tj).0 f)) (λ h f. h ((forbidden_iff w p ti tj).1 f))
    (not? (forbidden? w p ti tj))

-- ---- ticks

module _ (w n : ℕ) (pair : ℕ → Pair) (tick : ℕ → ℕ) (x : ℕ) where
  pub against_each : ((p : ℕ) → p < n → Permitted w (pair p) (pos x -ℤ pos (tick p))) → PermittedBy w n pair tick x
  unfolding PermittedBy
  against_each h = h

  pub each_of : PermittedBy w n pair tick x → (p : ℕ) → p < n → Permitted w (pair p) (pos x -ℤ pos (tick p))
  unfolding PermittedBy
  each_of h = h

  abbrev pub permitted-by? : Test (PermittedBy w n pair tick x)
  permitted-by? = map? against_each each_of (all? (λ p. permitted? w (pair p) (tick p) x) n)

-- no tick from a given one up and below x is permitted
abbrev NoneBelow : (from : ℕ) (Permits : ℕ → Type 0) (x : ℕ) → Type 0
NoneBelow from Permits x = (y : ℕ) → y < x → ¬ ((from ≤ y) × Permits y)

module _ {from x : ℕ} {Permits : ℕ → Type 0} where
  pub smallest : (from ≤ x) × (Permits x × NoneBelow from Permits x) → SmallestFrom from Permits x
  smallest h = record { not_before = h.0; permitted = h.1.0; least = λ y l f. cases y l f (dec_le x y) }
    where
      cases : (y : ℕ) → from ≤ y → Permits y → Dec (x ≤ y) → x ≤ y
      cases y l f (yes e) = e
      cases y l f (no e) = absurd (h.1.1 y (omega arith) (l, f))

  pub none_below : SmallestFrom from Permits x → (from ≤ x) × (Permits x × NoneBelow from Permits x)
  none_below s = (s.not_before, (s.permitted, λ y l f. let h = s.least y f.0 f.1 in let e : ⊥ = omega arith in e))

abbrev pub smallest? : {Permits : ℕ → Type 0} → ((x : ℕ) → Test (Permits x)) → (from x : ℕ) → Test (SmallestFrom from Permits x)
smallest? t from x = map? smallest none_below (le? from x and? t x and? all? (λ y. not? (le? from y and? t y)) x)

abbrev pub start-ticks? : (w : ℕ) (t : Tables) (order : List ℕ) (tick : ℕ → ℕ) → Test (StartTicks w t order tick)
start-ticks? w t order tick =
    map? (λ h. record { smallest = h }) (λ s. s.smallest)
    (all? (λ q. smallest? (permitted-by? w q (λ p. pair_of t (get_or order p 0) (get_or order q 0)) (λ p. tick (get_or order p 0))) 0 (tick (get_or order q 0))) (length order))
