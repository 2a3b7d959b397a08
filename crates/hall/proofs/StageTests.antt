-- Questions whose checks have tests that compute. A stage's places are bounded, so that it is a computed
-- question whether anything of it holds and whether a number at a place is its first; so for a list of
-- stages. A question with tests is decided. Assumes nothing.
--     ChecksAt s p    each check of the stage s has a test at place p
--     Tested s        so at every place, and from some place on the stage is clear
--     TestedAll q     so has each stage of q
use mathlib.Core.Logic.{◌⊎◌, inl, inr}
use mathlib.Core.List.{[], ◌∷◌, ◌++◌}
use Prim.Native.Nat.{ℕ, suc, ◌≤◌, ◌<◌}
use native.Mathlib.Omega.{arith}
use native.Mathlib.Decide.{dec_lt}
use Rattle.hall.specs.Stages.{Stage, Question, FirstOf, here, later, ClearAt, FirstAt, FirstIn, NoneIn}
use Rattle.hall.specs.Stages.{FirstStage, NoStage, First, None, once, at_each}
use Rattle.hall.proofs.Test.{Test, dec, lt?, eq?, not?, never?, always?, ◌and?◌, ◌or?◌, map?, all?}
use Rattle.hall.proofs.Stages.{settled_at, DecidedAt, Settled, settled}
use Rattle.hall.proofs.Stages.{Decided, decided_none, decided_more}

abbrev pub ChecksAt : Stage → ℕ → Type 0
ChecksAt [] p = Unit
ChecksAt (c ∷ s) p = Test (c.At p) × ChecksAt s p

pub record Tested (s : Stage) : Type 0 where
  pub places : ℕ
  pub at : (p : ℕ) → ChecksAt s p
  pub beyond : (p : ℕ) → places ≤ p → ClearAt s p

abbrev pub TestedAll : Question → Type 0
TestedAll [] = Unit
TestedAll (s ∷ q) = Tested s × TestedAll q

-- ---- the tests of a stage

pub first_case : {A B C : Type 0} → A ⊎ (B × C) → FirstOf A B C
first_case (inl a) = here a
first_case (inr h) = later h.0 h.1

pub case_first : {A B C : Type 0} → FirstOf A B C → A ⊎ (B × C)
case_first (here a) = inl a
case_first (later k h) = inr (k, h)

abbrev pub clear-at? : (s : Stage) (p : ℕ) → ChecksAt s p → Test (ClearAt s p)
clear-at? [] p t = always?
clear-at? (c ∷ s) p t = not? t.0 and? clear-at? s p t.1

abbrev pub first-at? : (s : Stage) (n p : ℕ) → ChecksAt s p → Test (FirstAt s n p)
first-at? [] n p t = never?
first-at? (c ∷ s) n p t =
    map? first_case case_first ((eq? n c.number and? t.0) or? (not? t.0 and? first-at? s n p t.1))

module _ {s : Stage} (t : Tested s) where
  pub near : ((p : ℕ) → p < t.places → ClearAt s p) → NoneIn s
  near h = record { clear = λ p. side p (dec_lt p t.places) }
    where
      side : (p : ℕ) → Dec (p < t.places) → ClearAt s p
      side p (yes l) = h p l
      side p (no l) = t.beyond p (omega arith)

  abbrev pub none-in? : Test (NoneIn s)
  none-in? = map? near (λ k p l. k.clear p) (all? (λ p. clear-at? s p (t.at p)) t.places)

  abbrev pub first-in? : (n p : ℕ) → Test (FirstIn s n p)
  first-in? n p =
      map? {A = FirstAt s n p × ((q : ℕ) → q < p → ClearAt s q)}
      (λ h. record { holds = h.0; lowest = h.1 }) (λ h. (h.holds, h.lowest))
      (first-at? s n p (t.at p) and? all? (λ q. clear-at? s q (t.at q)) p)

-- ---- the tests of a question

abbrev no-stage? : (q : Question) → TestedAll q → Test (NoStage q)
no-stage? [] t = always?
no-stage? (s ∷ q) t = none-in? t.0 and? no-stage? q t.1

abbrev first-stage? : (q : Question) → TestedAll q → (n p : ℕ) → Test (FirstStage q n p)
first-stage? [] t n p = never?
first-stage? (s ∷ q) t n p =
    map? first_case case_first (first-in? t.0 n p or? (none-in? t.0 and? first-stage? q t.1 n p))

abbrev pub none? : (q : Question) → TestedAll q → Test (None q)
none? q t = map? (λ h. record { in_turn = h }) (λ n. n.in_turn) (no-stage? q t)

abbrev pub first? : (q : Question) → TestedAll q → (n p : ℕ) → Test (First q n p)
first? q t n p = map? (λ h. record { in_turn = h }) (λ f. f.in_turn) (first-stage? q t n p)

-- ---- a question with tests is decided

decided_at : (s : Stage) (p : ℕ) → ChecksAt s p → DecidedAt s p
decided_at [] p t = tt
decided_at (c ∷ s) p t = (dec t.0, decided_at s p t.1)

pub tested_settled : {s : Stage} → Tested s → Settled s
tested_settled {s} t = settled s (λ p. settled_at s p (decided_at s p (t.at p))) t.places t.beyond

pub tested_decided : (q : Question) → TestedAll q → Decided q
tested_decided [] t = decided_none
tested_decided (s ∷ q) t = decided_more (tested_settled t.0) (tested_decided q t.1)

-- ---- where checks are asked

-- a check at one place
abbrev pub once? : {n i : ℕ} {P : Type 0} → Test P → Tested (once n i P)
once? {n} {i} {P} t = record { places = suc i; at = λ p. (eq? p i and? t, tt); beyond = λ p l. (λ h. omega (arith, h.0), tt) }

abbrev pub each-at? : (n p : ℕ) (s : Stage) → ChecksAt s p → ChecksAt (at_each n s) p
each-at? n p [] t = tt
each-at? n p (c ∷ s) t = (lt? p n and? t.0, each-at? n p s t.1)

pub each_beyond : (n p : ℕ) (s : Stage) → n ≤ p → ClearAt (at_each n s) p
each_beyond n p [] l = tt
each_beyond n p (c ∷ s) l = (λ h. omega (arith, h.0), each_beyond n p s l)

-- checks at each place below n
abbrev pub each? : (n : ℕ) (s : Stage) → ((p : ℕ) → ChecksAt s p) → Tested (at_each n s)
each? n s t = record { places = n; at = λ p. each-at? n p s (t p); beyond = λ p. each_beyond n p s }

-- one question after the other
abbrev pub both? : (a b : Question) → TestedAll a → TestedAll b → TestedAll (a ++ b)
both? [] b t u = u
both? (s ∷ a) b t u = (t.0, both? a b t.1 u)
