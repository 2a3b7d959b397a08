-- One answer fits a question, whatever its stages: the first fault is unique, it excludes that none holds,
-- and if each stage is settled one of the two is so. Each law goes down the list. In a stage, the lower of
-- two first places would be clear and not clear; at one place the checks are gone through in their order. The
-- numbers of faults (f and g here) are compared with nothing but those of the checks, so that no law splits
-- on them. Assumes nothing.
--     SettledAt s p    at place p a check of the stage s is first, or nothing of s holds there
--     Settled s        the stage has a first fault, or nothing of it holds
--     DecidedAt s p    each check of s is decided at place p
--     Swept s n        of the places below n one is the stage's first, or all are clear
--     Decided q        an answer fits the question, and no other does
use mathlib.Core.Path.{◌≡◌, refl, sym, ◌∙◌, ap}
use mathlib.Core.Logic.{◌↔◌}
use mathlib.Core.List.{[], ◌∷◌}
use Prim.Native.Nat.{ℕ, zero, suc, ◌≤◌, ◌<◌}
use native.Mathlib.Nat.{not-suc-le-zero}
use native.Mathlib.Decide.{dec_lt}
use native.Mathlib.Omega.{arith}
use borrow.Author.Count.{below_more}
use Rattle.std.specs.Prelude.{Result, Ok, Err}
use Rattle.hall.specs.declared.Refusal.{Refusal}
use Rattle.hall.specs.Stages.{Stage, Question, here, later, ClearAt, FirstAt, FirstIn, NoneIn}
use Rattle.hall.specs.Stages.{FirstStage, NoStage, First, None}
use Rattle.hall.specs.Said.{Said, accepted, refused, Fits, Judged}
use Rattle.hall.proofs.Numbers.{number_one_fault}

-- ---- at one place

pub not_clear : (s : Stage) (f : ℕ) (p : ℕ) → FirstAt s f p → ¬ ClearAt s p
not_clear [] f p h k = h
not_clear (c ∷ s) f p (here h) k = k.0 h.1
not_clear (c ∷ s) f p (later n h) k = not_clear s f p h k.1

one_number : (s : Stage) (f g : ℕ) (p : ℕ) → FirstAt s f p → FirstAt s g p → f ≡ g
one_number [] f g p a b = absurd a
one_number (c ∷ s) f g p (here a) (here b) = a.0 ∙ sym b.0
one_number (c ∷ s) f g p (here a) (later n b) = absurd (n a.1)
one_number (c ∷ s) f g p (later n a) (here b) = absurd (n b.1)
one_number (c ∷ s) f g p (later n a) (later m b) = one_number s f g p a b

-- ---- in one stage

module _ {s : Stage} {f g : ℕ} {p q : ℕ} where
  not_lower : FirstIn s f p → FirstIn s g q → ¬ (p < q)
  not_lower a b l = not_clear s f p a.holds (b.lowest p l)

stage_excludes : {s : Stage} {f : ℕ} {p : ℕ} → FirstIn s f p → ¬ NoneIn s
stage_excludes {s} {f} {p} a n = not_clear s f p a.holds (n.clear p)

stage_unique : {s : Stage} {f g : ℕ} {p q : ℕ} → FirstIn s f p → FirstIn s g q → (f ≡ g) × (p ≡ q)
stage_unique {s} {f} {g} {p} {q} a b = (one_number s f g p a.holds (rw same b.holds), same)
  where
    same : p ≡ q
    same = omega (arith, not_lower a b, not_lower b a)

-- ---- in a question

-- no fault, or a first one, and never both
pub none_excludes : {q : Question} {f : ℕ} {p : ℕ} → First q f p → ¬ None q
none_excludes {q} {f} {p} a n = go q a.in_turn n.in_turn
  where
    go : (q : Question) → FirstStage q f p → NoStage q → ⊥
    go [] a n = a
    go (s ∷ q) (here a) n = stage_excludes a n.0
    go (s ∷ q) (later k a) n = go q a n.1

pub first_unique : {q : Question} {f g : ℕ} {p r : ℕ} → First q f p → First q g r → (f ≡ g) × (p ≡ r)
first_unique {q} {f} {g} {p} {r} a b = go q a.in_turn b.in_turn
  where
    go : (q : Question) → FirstStage q f p → FirstStage q g r → (f ≡ g) × (p ≡ r)
    go [] a b = absurd a
    go (s ∷ q) (here a) (here b) = stage_unique a b
    go (s ∷ q) (here a) (later n b) = absurd (stage_excludes a n)
    go (s ∷ q) (later n a) (here b) = absurd (stage_excludes b n)
    go (s ∷ q) (later n a) (later m b) = go q a b

-- one answer fits
pub fits_unique : (q : Question) (a b : Said Unit) → Fits q a → Fits q b → a ≡ b
fits_unique q (accepted u) (accepted v) a b = refl
fits_unique q (accepted u) (refused n p) a b = absurd (none_excludes b a)
fits_unique q (refused n p) (accepted u) a b = absurd (none_excludes a b)
fits_unique q (refused n p) (refused m r) a b = let e = first_unique a b in λ i. refused (e.0 i) (e.1 i)

pub judged_unique : (q : Question) (c d : Result Unit Refusal) → Judged q c → Judged q d → c ≡ d
judged_unique q (Ok u) (Ok v) a b = refl
judged_unique q (Ok u) (Err r) a b = absurd (none_excludes b a)
judged_unique q (Err r) (Ok u) a b = absurd (none_excludes a b)
judged_unique q (Err r) (Err t) a b =
    let e = first_unique a b in
    let same = number_one_fault r.fault t.fault e.0 in
    ap Err (λ i. record { fault = same i; place = e.1 i })

-- ---- there is an answer

pub data SettledAt (s : Stage) (p : ℕ) : Type 0 where
  faulty : (f : ℕ) → FirstAt s f p → SettledAt s p
  clean : ClearAt s p → SettledAt s p

pub data Settled (s : Stage) : Type 0 where
  refuses : (f : ℕ) (p : ℕ) → FirstIn s f p → Settled s
  passes : NoneIn s → Settled s

abbrev pub DecidedAt : Stage → ℕ → Type 0
DecidedAt [] p = Unit
DecidedAt (c ∷ s) p = Dec (c.At p) × DecidedAt s p

pub settled_at : (s : Stage) (p : ℕ) → DecidedAt s p → SettledAt s p
settled_at [] p d = clean tt
settled_at (c ∷ s) p d = cases d.0 (settled_at s p d.1)
  where
    cases : Dec (c.At p) → SettledAt s p → SettledAt (c ∷ s) p
    cases (yes h) t = faulty c.number (here (refl, h))
    cases (no k) (faulty f h) = faulty f (later k h)
    cases (no k) (clean h) = clean (k, h)

-- the places below n, one after the other
data Swept (s : Stage) (n : ℕ) : Type 0 where
  stopped : (f : ℕ) (p : ℕ) → FirstIn s f p → Swept s n
  cleared : ((p : ℕ) → p < n → ClearAt s p) → Swept s n

module _ (s : Stage) (at : (p : ℕ) → SettledAt s p) where
  swept : (n : ℕ) → Swept s n
  swept zero = cleared (λ p l. absurd (not-suc-le-zero l))
  swept (suc n) = cases (swept n) (at n)
    where
      cases : Swept s n → SettledAt s n → Swept s (suc n)
      cases (stopped f p h) t = stopped f p h
      cases (cleared k) (faulty f h) = stopped f n (record { holds = h; lowest = k })
      cases (cleared k) (clean h) = cleared (λ p l. below_more (ClearAt s) n k h p (omega arith))

  -- a stage whose places are below n
  pub settled : (n : ℕ) → ((p : ℕ) → n ≤ p → ClearAt s p) → Settled s
  settled n above = cases (swept n)
    where
      cases : Swept s n → Settled s
      cases (stopped f p h) = refuses f p h
      cases (cleared k) = passes (record { clear = λ p. side p (dec_lt p n) })
        where
          side : (p : ℕ) → Dec (p < n) → ClearAt s p
          side p (yes l) = k p l
          side p (no l) = above p (omega arith)

pub record Decided (q : Question) : Type 0 where
  pub answer : Said Unit
  pub fits : Fits q answer
  pub only : (a : Said Unit) → Fits q a → a ≡ answer

pub decided_by : {q : Question} (a : Said Unit) → Fits q a → Decided q
decided_by {q} a h = record { answer = a; fits = h; only = λ b k. fits_unique q b a k h }

pub decided_none : Decided []
decided_none = decided_by (accepted tt) (record { in_turn = tt })

-- every question is decided whose stages are settled
pub decided_more : {s : Stage} {q : Question} → Settled s → Decided q → Decided (s ∷ q)
decided_more {s} {q} t d = cases t d.answer d.fits
  where
    cases : Settled s → (a : Said Unit) → Fits q a → Decided (s ∷ q)
    cases (refuses f p h) a k = decided_by (refused f p) (record { in_turn = here h })
    cases (passes n) (accepted u) k = decided_by (accepted tt) (record { in_turn = (n, k.in_turn) })
    cases (passes n) (refused f p) k = decided_by (refused f p) (record { in_turn = later n k.in_turn })

-- where an answer fits that the question gives, it is refused exactly with the number and the place of the
-- first fault
pub refused_exactly : {A : Type 0} {q : Question} (s : Said A) → Fits q s → (n p : ℕ) → (s ≡ refused n p) ↔ First q n p
refused_exactly {A} {q} s fits n p = (λ e. first s e fits, λ h. back s fits h)
  where
    first : (s : Said A) → s ≡ refused n p → Fits q s → First q n p
    first s e fits = rw e at fits

    back : (s : Said A) → Fits q s → First q n p → s ≡ refused n p
    back (accepted a) none h = absurd (none_excludes h none)
    back (refused m r) k h = let e = first_unique k h in λ i. refused (e.0 i) (e.1 i)
