-- How many rounds the search for a tick makes. A carrier whose stretch was left behind never holds the tick
-- up again, and a round that moves the tick leaves behind the stretch of one carrier at least. So the number
-- of held carriers whose stretch ends after the tick falls with every round that moves it: it is the measure
-- of `first_tick`. It is at most the number k of held carriers, so at most k rounds move the tick and one
-- does not. Each round makes k pair tests, k (k + 1) at most in all. Assumes nothing.
use mathlib.Core.Path.{◌≡◌}
use mathlib.Core.List.{List}
use Prim.Native.Nat.{ℕ, zero, suc, ◌+◌, ◌≤◌, ◌<◌, zero-le}
use native.Mathlib.Nat.{le_refl, not-suc-le-zero}
use native.Mathlib.Decide.{dec_lt}
use native.Mathlib.Omega.{arith}
use lib.ListN.{length}
use Rattle.hall.specs.Ticks.{total}
use Rattle.hall.proofs.Ticks.{total_limit}
use Rattle.rule.specs.declared.Held.{Held}
use Rattle.rule.specs.Held.{held_pair, held_tick}
use Rattle.rule.specs.Reach.{PassedOne}
use Rattle.rule.proofs.StretchEnd.{stretch_end, end_after, end_by}

-- ---- sums of which each part falls

pub total_falls : (k : ℕ) (f g : ℕ → ℕ) → ((i : ℕ) → f i ≤ g i) → total k f ≤ total k g
unfolding total
total_falls zero f g h = le_refl 0
total_falls (suc k) f g h = let r = total_falls k f g h in let q = h k in omega arith

one_more_less : (a b x y : ℕ) {A : Type 0}
    → Dec A → a ≤ b → x ≤ y → (A → a < b) → (¬ A → x < y) → a + x < b + y
one_more_less a b x y (yes h) before here f g = let k = f h in omega arith
one_more_less a b x y (no h) before here f g = let k = g h in omega arith

pub total_less : (k : ℕ) (f g : ℕ → ℕ) → ((i : ℕ) → f i ≤ g i)
    → (p : ℕ) → p < k → f p < g p → total k f < total k g
unfolding total
total_less zero f g h p l s = absurd (not-suc-le-zero l)
total_less (suc k) f g h p l s =
    one_more_less (total k f) (total k g) (f k) (g k) (dec_lt p k) (total_falls k f g h) (h k)
    (λ m. total_less k f g h p m s)
    (λ m. let e : p ≡ k = omega arith in rw e at s)

-- ---- carriers whose stretch ends after a tick

one : {A : Type 0} → Dec A → ℕ
one (yes a) = 1
one (no a) = 0

one_falls : {A B : Type 0} (a : Dec A) (b : Dec B) → (A → B) → one a ≤ one b
unfolding one
one_falls (yes a) (yes b) f = le_refl 1
one_falls (yes a) (no b) f = absurd (b (f a))
one_falls (no a) b f = zero-le

one_less : {A B : Type 0} (a : Dec A) (b : Dec B) → ¬ A → B → one a < one b
unfolding one
one_less (yes a) b n y = absurd (n a)
one_less (no a) (yes b) n y = le_refl 1
one_less (no a) (no b) n y = absurd (b y)

one_limit : {A : Type 0} (a : Dec A) → one a ≤ 1
unfolding one
one_limit (yes a) = le_refl 1
one_limit (no a) = zero-le

module _ (w : ℕ) (held : List Held) where
  abbrev end : ℕ → ℕ
  end p = stretch_end w (held_pair held p) (held_tick held p)

  -- how many held carriers have a stretch that ends after a tick
  pub ahead : ℕ → ℕ
  ahead t = total (length held) (λ p. one (dec_lt t (end p)))

  pub ahead_limit : (t : ℕ) → ahead t ≤ length held
  unfolding ahead
  ahead_limit t =
      let after : ℕ → ℕ = λ p. one (dec_lt t (end p)) in
      let h = total_limit (length held) after 1 (λ p l. one_limit (dec_lt t (end p))) in omega arith

  -- a round that moves the tick leaves one more stretch behind
  pub ahead_falls : (t x : ℕ) → t ≤ x → PassedOne w held t x → ahead x < ahead t
  unfolding ahead
  ahead_falls t x h o =
      total_less (length held) (λ p. one (dec_lt x (end p))) (λ p. one (dec_lt t (end p)))
      (λ p. one_falls (dec_lt x (end p)) (dec_lt t (end p)) (λ l. omega arith)) o.place o.inside
      (one_less (dec_lt x (end o.place)) (dec_lt t (end o.place)) (λ l. omega (arith, by))
      (omega (arith, after, o.not_before)))
    where
      after : o.tick < end o.place
      after =
          end_after w (held_pair held o.place) (held_tick held o.place) o.tick x
          o.held_up o.free_on

      by : end o.place ≤ x
      by = end_by w (held_pair held o.place) (held_tick held o.place) o.tick x o.held_up o.free_on
