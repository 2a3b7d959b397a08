-- A loop over the entries of a list that asks the check of each in turn, and so answers for the stage of the
-- list: what is not refused is passed, and the first refusal is the stage's. A refusal behind what was passed
-- is the first of the whole question. Assumes nothing.
use Rattle.std.proofs.Common.{◌≡◌, refl, [], ◌∷◌, ◌++◌, ℕ, Result, Ok, Err, arith}
use Rattle.std.specs.Result.{IsErrAnd}
use Rattle.std.proofs.lemmas.Result.{err_from_is_err_and}
use Rattle.hall.specs.declared.Refusal.{Refusal}
use Rattle.hall.specs.Stages.{Stage, Question, First, None, only_at, at_each}
use Rattle.hall.specs.Numbers.{number_of}
use Rattle.hall.specs.Said.{Judged}
use Rattle.hall.proofs.Compose.{refused_first, first_before, first_after}
use Rattle.hall.proofs.Places.{none_only_at, stage_refuses, stage_ends}
use Rattle.network.specs.Entries.{FirstRefusal, all_passed, refused_at}

pub each_judged : (s : Stage) (n : ℕ) {Answer : ℕ → Result Unit Refusal → Type 0} {c : Result Unit Refusal} →
    FirstRefusal Answer n c →
    ((k : ℕ) (c : Result Unit Refusal) → Answer k c → Judged (only_at k (at_each n s)) c) →
    Judged (at_each n s ∷ []) c
each_judged s n (all_passed h) judged =
    stage_ends s {i = n} (omega arith) (record { clear = λ p l. none_only_at (at_each n s) p (judged p (Ok tt) (h p l)) })
each_judged s n (refused_at k l h before) judged =
    stage_refuses (record { clear = λ p l. none_only_at (at_each n s) p (judged p (Ok tt) (before p l)) }) refl
    (judged k _ h)

-- a refusal that a `?` returns as it came
pub returned : (q : Question) (c : Result Unit Refusal) (r : Refusal) →
    IsErrAnd c (λ e. e ≡ r) → First q (number_of r.fault) r.place → Judged q c
returned q c r told first = let p = err_from_is_err_and c told in rw (p.1, p.2) first

-- the same, where b refuses behind a and in front of the rest
pub returned_behind : (a b rest : Question) → None a → {d : Result Unit Refusal} {r : Refusal} → d ≡ Err r → Judged b d →
    (c : Result Unit Refusal) → IsErrAnd c (λ e. e ≡ r) → Judged ((a ++ b) ++ rest) c
returned_behind a b rest none {r = r} told h c exit =
    returned ((a ++ b) ++ rest) c r exit (first_before rest (first_after none (refused_first b told h)))
