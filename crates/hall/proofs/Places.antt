-- Where checks are asked. Checks at one place refuse there, in their order. A stage at each place below n is
-- asked by a loop: as long as the places below i are clear it goes on, a refusal at i is the stage's first
-- fault, and at n the stage is clear. The laws of `asked` are what a function with a test and a `return` for
-- each check cites. Assumes nothing.
--     Passed s i       nothing of s holds at the places below i: what a loop over the places knows
use mathlib.Core.Path.{◌≡◌, refl}
use mathlib.Core.Logic.{◌⊎◌, inl, inr}
use mathlib.Core.List.{[], ◌∷◌}
use Prim.Native.Nat.{ℕ, ◌+◌, ◌≤◌, ◌<◌}
use native.Mathlib.Nat.{not-suc-le-zero}
use native.Mathlib.Decide.{dec_lt}
use native.Mathlib.Omega.{arith}
use borrow.Author.Count.{below_more}
use Rattle.hall.specs.declared.Refusal.{Refusal}
use Rattle.std.specs.Prelude.{Result, Ok, Err}
use Rattle.hall.specs.Stages.{Stage, Question, here, later, ClearAt, FirstAt, FirstIn, NoneIn}
use Rattle.hall.specs.Stages.{FirstStage, First, None, once, only_at, at_each}
use Rattle.hall.specs.Said.{accepted, refused, Judged}
use Rattle.hall.proofs.Stages.{SettledAt, faulty, clean, Settled, refuses, passes}
use Rattle.hall.proofs.Stages.{Decided, decided_by}
use Rattle.hall.proofs.Compose.{first_here, first_later, none_more, none_at_all}
use Rattle.hall.proofs.Compose.{refused_first, sound_none}

pub neither : {A B : Type 0} → ¬ A → ¬ B → ¬ (A ⊎ B)
neither k l (inl a) = k a
neither k l (inr b) = l b

-- ---- a check at one place

module _ {f : ℕ} {i : ℕ} {P : Type 0} where
  asked_first : P → FirstIn (once f i P) f i
  asked_first h = record { holds = here (refl, (refl, h)); lowest = λ q l. (λ x. omega arith, tt) }

  asked_none : ¬ P → NoneIn (once f i P)
  asked_none k = record { clear = λ p. (λ x. k x.1, tt) }

  pub asked_settled : Dec P → Settled (once f i P)
  asked_settled (yes h) = refuses f i (asked_first h)
  asked_settled (no k) = passes (asked_none k)

  -- in front of other stages: it refuses, or the question goes on
  module _ {q : Question} where
    pub asked_here : P → First (once f i P ∷ q) f i
    asked_here h = first_here (asked_first h)

    pub asked_later : {g : ℕ} {p : ℕ} → ¬ P → First q g p → First (once f i P ∷ q) g p
    asked_later k h = first_later (asked_none k) h

    pub asked_clear : ¬ P → None q → None (once f i P ∷ q)
    asked_clear k n = none_more (asked_none k) n

    -- and back: what a sound question tells of it
    pub none_asked : None (once f i P ∷ q) → (¬ P) × None q
    none_asked n = (λ h. (n.in_turn.0.clear i).0 (refl, h), record { in_turn = n.in_turn.1 })

    -- a first fault is that of the rest where the check does not hold
    pub first_past : {g p : ℕ} → ¬ P → First (once f i P ∷ q) g p → First q g p
    first_past {g} {p} k h = cases h.in_turn
      where
        cases : FirstStage (once f i P ∷ q) g p → First q g p
        cases (later n x) = record { in_turn = x }
        cases (here x) = in_stage x.holds
          where
            in_stage : FirstAt (once f i P) g p → First q g p
            in_stage (here y) = absurd (k y.1.1)
            in_stage (later m y) = absurd y

-- ---- a check that is said in another way

module _ {f i : ℕ} {P R : Type 0} {q : Question} (to : P → R) (back : R → P) where
  pub none_as : None (once f i P ∷ q) → None (once f i R ∷ q)
  none_as n = let r = none_asked n in asked_clear (λ x. r.0 (back x)) r.1

  pub first_as : {g p : ℕ} → First (once f i P ∷ q) g p → First (once f i R ∷ q) g p
  first_as {g} {p} h = cases h.in_turn
    where
      clear : {o : ℕ} → ClearAt (once f i P) o → ClearAt (once f i R) o
      clear k = (λ x. k.0 (x.0, back x.1), tt)

      holds : FirstAt (once f i P) g p → FirstAt (once f i R) g p
      holds (here y) = here (y.0, (y.1.0, to y.1.1))
      holds (later k y) = absurd y

      cases : FirstStage (once f i P ∷ q) g p → First (once f i R ∷ q) g p
      cases (here x) = first_here (record { holds = holds x.holds; lowest = λ o l. clear (x.lowest o l) })
      cases (later n x) = first_later (record { clear = λ o. clear (n.clear o) }) (record { in_turn = x })

-- ---- the checks of a stage at one place

pub place_first : (s : Stage) (f : ℕ) (i : ℕ) → FirstAt s f i → First (only_at i s) f i
place_first [] f i h = absurd h
place_first (c ∷ s) f i (here h) = rw h.0 (asked_here h.1)
place_first (c ∷ s) f i (later k h) = asked_later k (place_first s f i h)

pub place_none : (s : Stage) (i : ℕ) → ClearAt s i → None (only_at i s)
place_none [] i k = none_at_all
place_none (c ∷ s) i k = asked_clear k.0 (place_none s i k.1)

pub decided_place : (s : Stage) (i : ℕ) → SettledAt s i → Decided (only_at i s)
decided_place s i (faulty f h) = decided_by (refused f i) (place_first s f i h)
decided_place s i (clean k) = decided_by (accepted tt) (place_none s i k)

-- and back
pub first_only_at : (s : Stage) (i : ℕ) {f : ℕ} {p : ℕ} →
    First (only_at i s) f p → (p ≡ i) × FirstAt s f i
first_only_at s i {f} {p} h = go s h.in_turn
  where
    go : (s : Stage) → FirstStage (only_at i s) f p → (p ≡ i) × FirstAt s f i
    go [] h = absurd h
    go (c ∷ s) (later n h) = let r = go s h in (r.0, later (λ x. (n.clear i).0 (refl, x)) r.1)
    go (c ∷ s) (here h) = cases h.holds
      where
        cases : FirstAt (once c.number i (c.At i)) f p → (p ≡ i) × FirstAt (c ∷ s) f i
        cases (here x) = (x.1.0, here (x.0, x.1.1))
        cases (later k x) = absurd x

pub none_only_at : (s : Stage) (i : ℕ) → None (only_at i s) → ClearAt s i
none_only_at [] i n = tt
none_only_at (c ∷ s) i n = let r = none_asked n in (r.0, none_only_at s i r.1)

-- ---- at each place

pub record Passed (s : Stage) (i : ℕ) : Type 0 where
  pub clear : (p : ℕ) → p < i → ClearAt s p

clear_each : (s : Stage) (n p : ℕ) → (p < n → ClearAt s p) → ClearAt (at_each n s) p
clear_each [] n p k = tt
clear_each (c ∷ s) n p k = (λ h. (k h.0).0 h.1, clear_each s n p (λ l. (k l).1))

each_clear : (s : Stage) (n p : ℕ) → p < n → ClearAt (at_each n s) p → ClearAt s p
each_clear [] n p l k = tt
each_clear (c ∷ s) n p l k = (λ x. k.0 (l, x), each_clear s n p l k.1)

first_each : (s : Stage) (f : ℕ) (n p : ℕ) → p < n → FirstAt s f p → FirstAt (at_each n s) f p
first_each [] f n p l h = h
first_each (c ∷ s) f n p l (here h) = here (h.0, (l, h.1))
first_each (c ∷ s) f n p l (later k h) = later (λ x. k x.1) (first_each s f n p l h)

module _ (s : Stage) {n : ℕ} where
  pub each_first : {f : ℕ} {p : ℕ} → p < n → Passed s p → FirstAt s f p → FirstIn (at_each n s) f p
  each_first {f} {p} l passed h =
      record { holds = first_each s f n p l h; lowest = λ q m. clear_each s n q (λ k. passed.clear q m) }

  pub each_none : Passed s n → NoneIn (at_each n s)
  each_none passed = record { clear = λ p. clear_each s n p (passed.clear p) }

  -- and back: what a sound question tells of it
  pub none_each : {q : Question} → None (at_each n s ∷ q) → Passed s n × None q
  none_each h =
      let clear = h.in_turn.0.clear in
      (record { clear = λ p l. each_clear s n p l (clear p) }, record { in_turn = h.in_turn.1 })

-- ---- a loop over the places, whose body asks the checks of a stage at place i

pub loop_begins : (s : Stage) → Passed s 0
loop_begins s = record { clear = λ p l. absurd (not-suc-le-zero l) }

module _ {s : Stage} {i : ℕ} (passed : Passed s i) where
  -- the body finds nothing
  pub loop_passes : {c : Result Unit Refusal} → c ≡ Ok tt → Judged (only_at i s) c → Passed s (i + 1)
  loop_passes e h =
      let clear = none_only_at s i (sound_none (only_at i s) e h) in
      record { clear = below_more (ClearAt s) i passed.clear clear }

  pub loop_ends : {n : ℕ} → n ≤ i → None (at_each n s ∷ [])
  loop_ends l = none_more (each_none s (record { clear = λ p k. passed.clear p (omega arith) })) none_at_all

module _ {s : Stage} {i : ℕ} (passed : Passed s i) where
  -- the body refuses, of the stage itself
  pub stage_refuses : {c : Result Unit Refusal} {r : Refusal} → c ≡ Err r → Judged (only_at i s) c → Judged (s ∷ []) c
  stage_refuses e h =
      let at = first_only_at s i (refused_first (only_at i s) e h) in
      rw e (rw at.0 (first_here (record { holds = at.1; lowest = passed.clear })))

pub stage_ends : (s : Stage) {n i : ℕ} → n ≤ i → Passed (at_each n s) i → None (at_each n s ∷ [])
stage_ends s {n} {i} l passed = none_more (record { clear = λ p. side p (dec_lt p n) }) none_at_all
  where
    side : (p : ℕ) → Dec (p < n) → ClearAt (at_each n s) p
    side p (yes m) = passed.clear p (omega arith)
    side p (no m) = clear_each s n p (λ k. absurd (m k))
