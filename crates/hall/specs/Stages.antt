-- A question as a list of stages (rule 8.20). The order in which faults are looked for is the order of the
-- list: no number has a turn of its own, and nothing here names one.
--     Check            a number, and the places where it holds
--     f when At        the check of a fault: the number of the fault f holds at the places where At does
--     Stage            checks that are asked together, place by place
--     Question         stages, in the order in which they are asked
--     FirstOf          of a list: its head has it, or the head is clear and the rest has it
--     ClearAt s p      nothing of the stage s holds at place p
--     FirstAt s n p    n is the number of the check listed first among those of s that hold at place p
--     FirstIn s n p    p is the lowest place where anything of s holds, and n is first there
--     NoneIn s         nothing of s holds, at any place
--     First q n p      the number n at place p is first in the first stage of q where anything holds, which
--                      `FirstStage` says stage by stage
--     None q           nothing of q holds: no stage has anything (`NoStage`)
--     once n i P       the number n at the place i alone, if P
--     asked f i P      the same of a fault: a count or the dwell (2), the walk of a single move (8), a short
--                      table (9), a carrier named (10), a list put forward (11), a book and its clock (14 to
--                      16)
--     only_at i s      the checks of s at the place i alone, in turn: those of a single move
--     at_each n s      those of s at each place below n: an entry's place is its number in its section, from
--                      0
use Rattle.std.specs.Prelude.{◌≡◌, List, [], ◌∷◌, ℕ, ◌<◌}
use Rattle.hall.specs.declared.Fault.{Fault}
use Rattle.hall.specs.Numbers.{number_of}

pub record Check : Type 1 where
  pub number : ℕ
  pub At : ℕ → Type 0

infix 70 ◌when◌
abbrev pub ◌when◌ : Fault → (ℕ → Type 0) → Check
◌when◌ f At = record { number = number_of f; At = At }

abbrev pub Stage : Type 1
Stage = List Check

abbrev pub Question : Type 1
Question = List Stage

-- ---- the first

pub data FirstOf (Here Clear Later : Type 0) : Type 0 where
  here : Here → FirstOf Here Clear Later
  later : Clear → Later → FirstOf Here Clear Later

abbrev pub ClearAt : Stage → ℕ → Type 0
ClearAt [] p = Unit
ClearAt (c ∷ s) p = (¬ c.At p) × ClearAt s p

abbrev pub FirstAt : Stage → (n p : ℕ) → Type 0
FirstAt [] n p = ⊥
FirstAt (c ∷ s) n p = FirstOf ((n ≡ c.number) × c.At p) (¬ c.At p) (FirstAt s n p)

pub record FirstIn (s : Stage) (n p : ℕ) : Type 0 where
  pub holds : FirstAt s n p
  pub lowest : (q : ℕ) → q < p → ClearAt s q

pub record NoneIn (s : Stage) : Type 0 where
  pub clear : (p : ℕ) → ClearAt s p

abbrev pub FirstStage : Question → (n p : ℕ) → Type 0
FirstStage [] n p = ⊥
FirstStage (s ∷ q) n p = FirstOf (FirstIn s n p) (NoneIn s) (FirstStage q n p)

abbrev pub NoStage : Question → Type 0
NoStage [] = Unit
NoStage (s ∷ q) = NoneIn s × NoStage q

-- records, so that a law's question, number and place need not be written where it is cited
pub record First (q : Question) (n p : ℕ) : Type 0 where
  pub in_turn : FirstStage q n p

pub record None (q : Question) : Type 0 where
  pub in_turn : NoStage q

-- ---- where checks are asked

abbrev pub once : (n i : ℕ) → Type 0 → Stage
once n i P = record { number = n; At = λ p. (p ≡ i) × P } ∷ []

abbrev pub asked : Fault → ℕ → Type 0 → Stage
asked f i P = once (number_of f) i P

abbrev pub only_at : ℕ → Stage → Question
only_at i [] = []
only_at i (c ∷ s) = once c.number i (c.At i) ∷ only_at i s

abbrev pub at_each : ℕ → Stage → Stage
at_each n [] = []
at_each n (c ∷ s) = record { number = c.number; At = λ p. (p < n) × c.At p } ∷ at_each n s
