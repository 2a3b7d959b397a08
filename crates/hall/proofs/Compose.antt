-- Questions one after the other. A first fault of a is the first of a ++ b; where a is sound, what b answers
-- is what a ++ b answers; and each answer of a ++ b comes so. All by induction over a. Functions that check
-- one after the other cite `first_before` and `first_after` where a callee's refusal is returned, and
-- `judged_then` or `none_append` where they go on. Assumes nothing.
--     a ⇒ b         each answer of a is one of b; within a longer question too, b may then stand for a
--     Alike s t     at each place, what s answers there t answers
use mathlib.Core.Path.{◌≡◌, ◌∙◌}
use mathlib.Core.Logic.{◌↔◌}
use mathlib.Core.List.{[], ◌∷◌, ◌++◌}
use Prim.Native.Nat.{ℕ}
use native.Mathlib.Omega.{arith}
use Rattle.hall.specs.declared.Fault.{Fault}
use Rattle.hall.specs.declared.Refusal.{Refusal}
use Rattle.std.specs.Prelude.{Result, Ok, Err}
use Rattle.hall.specs.Stages.{Check, Stage, Question, FirstOf, here, later, ClearAt, FirstAt, FirstIn}
use Rattle.hall.specs.Stages.{NoneIn, FirstStage, NoStage, First, None}
use Rattle.hall.specs.Numbers.{number_of}
use Rattle.hall.specs.Said.{Said, accepted, refused, Fits, Judged}
use Rattle.hall.proofs.Stages.{Decided, decided_by}

-- an answer is sound or a refusal, and not both
pub not_both : {c : Result Unit Refusal} {r : Refusal} → c ≡ Err r → ¬ (c ≡ Ok tt)
not_both e s = let z : ◌≡◌ {A = ℕ} 0 1 = cc in omega arith

-- ---- a stage in front

pub none_at_all : None []
none_at_all = record { in_turn = tt }

module _ {s : Stage} {q : Question} where
  pub none_more : NoneIn s → None q → None (s ∷ q)
  none_more n k = record { in_turn = (n, k.in_turn) }

  module _ {f : ℕ} {p : ℕ} where
    pub first_here : FirstIn s f p → First (s ∷ q) f p
    first_here h = record { in_turn = here h }

    pub first_later : NoneIn s → First q f p → First (s ∷ q) f p
    first_later n h = record { in_turn = later n h.in_turn }

-- ---- a question in front

pub none_append : {a b : Question} → None a → None b → None (a ++ b)
none_append {a} {b} n m = record { in_turn = go a n.in_turn }
  where
    go : (a : Question) → NoStage a → NoStage (a ++ b)
    go [] n = m.in_turn
    go (s ∷ a) n = (n.0, go a n.1)

module _ {f : ℕ} {p : ℕ} where
  pub first_before : {a : Question} (b : Question) → First a f p → First (a ++ b) f p
  first_before {a} b h = record { in_turn = go a h.in_turn }
    where
      go : (a : Question) → FirstStage a f p → FirstStage (a ++ b) f p
      go [] h = absurd h
      go (s ∷ a) (here h) = here h
      go (s ∷ a) (later n h) = later n (go a h)

  pub first_after : {a b : Question} → None a → First b f p → First (a ++ b) f p
  first_after {a} {b} n h = record { in_turn = go a n.in_turn }
    where
      go : (a : Question) → NoStage a → FirstStage (a ++ b) f p
      go [] n = h.in_turn
      go (s ∷ a) n = later n.0 (go a n.1)

-- ---- taken apart again

pub none_split : (a b : Question) → None (a ++ b) → None a × None b
none_split a b n = go a n.in_turn
  where
    go : (a : Question) → NoStage (a ++ b) → None a × None b
    go [] n = (none_at_all, record { in_turn = n })
    go (s ∷ a) n = let rest = go a n.1 in (none_more n.0 rest.0, rest.1)

module _ (a b : Question) {f : ℕ} {p : ℕ} where
  pub first_split : First (a ++ b) f p → FirstOf (First a f p) (None a) (First b f p)
  first_split h = go a h.in_turn
    where
      go : (a : Question) → FirstStage (a ++ b) f p → FirstOf (First a f p) (None a) (First b f p)
      go [] h = later none_at_all (record { in_turn = h })
      go (s ∷ a) (here h) = here (first_here h)
      go (s ∷ a) (later n h) =
          elim (go a h) [ here k ↦ here (first_later n k) | later m k ↦ later (none_more n m) k ]

  -- where a is not sound, nothing of b is asked
  pub first_cut : ¬ None a → First (a ++ b) f p → First a f p
  first_cut k h = elim (first_split h) [ here x ↦ x | later n x ↦ absurd (k n) ]

-- ---- what functions answer that check one after the other

-- the refusal that names the first fault
pub answered : {q : Question} {c : Result Unit Refusal} {f : Fault} {p : ℕ} →
    c ≡ Err (record { fault = f; place = p }) → First q (number_of f) p → Judged q c
answered e h = rw e h

module _ (a : Question) {c : Result Unit Refusal} where
  pub refused_first : {r : Refusal} → c ≡ Err r → Judged a c → First a (number_of r.fault) r.place
  refused_first e h = rw e at h

  pub sound_none : c ≡ Ok tt → Judged a c → None a
  sound_none e h = rw e at h

module _ (a b : Question) where
  -- a refusal that is returned as it came
  pub judged_stop : {c : Result Unit Refusal} {r : Refusal} → c ≡ Err r → Judged a c → Judged (a ++ b) c
  judged_stop e h = rw e (first_before b (refused_first a e h))

  -- the answer of what is asked after a
  pub judged_after : None a → (d : Result Unit Refusal) → Judged b d → Judged (a ++ b) d
  judged_after n (Ok u) h = none_append n h
  judged_after n (Err r) h = first_after n h

  pub judged_then : {c : Result Unit Refusal} → c ≡ Ok tt → Judged a c → (d : Result Unit Refusal) → Judged b d → Judged (a ++ b) d
  judged_then e h = judged_after (sound_none a e h)

pub decided_append : {a b : Question} → Decided a → Decided b → Decided (a ++ b)
decided_append {a} {b} x y = cases x.answer x.fits y.answer y.fits
  where
    cases : (s : Said Unit) → Fits a s → (t : Said Unit) → Fits b t → Decided (a ++ b)
    cases (accepted u) h (accepted v) k = decided_by (accepted tt) (none_append h k)
    cases (accepted u) h (refused f p) k = decided_by (refused f p) (first_after h k)
    cases (refused f p) h t k = decided_by (refused f p) (first_before b h)

-- ---- one question for another

infix 50 ◌⇒◌
pub record ◌⇒◌ (a b : Question) : Type 0 where
  pub firsts : (f : ℕ) (p : ℕ) → First a f p → First b f p
  pub nones : None a → None b

pub ⇒-judged : {a b : Question} → a ⇒ b → (c : Result Unit Refusal) → Judged a c → Judged b c
⇒-judged e (Ok u) h = e.nones h
⇒-judged e (Err r) h = e.firsts (number_of r.fault) r.place h

pub ⇒-append : (a b : Question) {a' b' : Question} → a ⇒ a' → b ⇒ b' → a ++ b ⇒ a' ++ b'
⇒-append a b {a'} {b'} d e = record { firsts = λ f p h. cases f p (first_split a b h); nones = both }
  where
    cases : (f : ℕ) (p : ℕ) → FirstOf (First a f p) (None a) (First b f p) → First (a' ++ b') f p
    cases f p (here h) = first_before b' (d.firsts f p h)
    cases f p (later n h) = first_after (d.nones n) (e.firsts f p h)

    both : None (a ++ b) → None (a' ++ b')
    both n = let parts = none_split a b n in none_append (d.nones parts.0) (e.nones parts.1)

-- ---- one stage for another

pub record Alike (s t : Stage) : Type 0 where
  pub firsts : (f : ℕ) (p : ℕ) → FirstAt s f p → FirstAt t f p
  pub clears : (p : ℕ) → ClearAt s p → ClearAt t p

pub ⇒-stage : {s t : Stage} → Alike s t → s ∷ [] ⇒ t ∷ []
⇒-stage {s} {t} e = record { firsts = λ f p h. cases f p h.in_turn; nones = none }
  where
    none : None (s ∷ []) → None (t ∷ [])
    none n = none_more (record { clear = λ p. e.clears p (n.in_turn.0.clear p) }) none_at_all

    cases : (f : ℕ) (p : ℕ) → FirstStage (s ∷ []) f p → First (t ∷ []) f p
    cases f p (later n h) = absurd h
    cases f p (here h) =
        first_here (record { holds = e.firsts f p h.holds; lowest = λ q l. e.clears q (h.lowest q l) })

pub alike_none : Alike [] []
alike_none = record { firsts = λ f p h. h; clears = λ p k. k }

module _ {c d : Check} {s t : Stage} (e : Alike s t) where
  -- the same number, given exactly where the other is
  pub alike_check : c.number ≡ d.number → ((p : ℕ) → c.At p ↔ d.At p) → Alike (c ∷ s) (d ∷ t)
  alike_check same iff =
      record { firsts = first; clears = λ p k. (λ h. k.0 ((iff p).1 h), e.clears p k.1) }
    where
      first : (f : ℕ) (p : ℕ) → FirstAt (c ∷ s) f p → FirstAt (d ∷ t) f p
      first f p (here h) = here (h.0 ∙ same, (iff p).0 h.1)
      first f p (later k h) = later (λ x. k ((iff p).1 x)) (e.firsts f p h)
