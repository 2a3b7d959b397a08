-- A job text has one answer: two texts that fit `AnswerText` are equal, and so are two outcomes that fit the
-- promise of `answer`. A text writes one job at most or is refused with one number at one line, never both
-- (form's laws); a job has one first fault, or none and then one plan, whose ticks, distances below the
-- number of carriers and cost are all that is printed. A long input has the answer of its first bytes, on
-- which the program relies. Assumes nothing.
--     answer_text_unique    two texts that are answers to a text are equal
--     answer_unique         two outcomes of `answer` are equal
--     answer_of_front       the answer to the first n bytes of a text is the answer to the text, if n is
--                           47,111 or more
use mathlib.Core.Path.{◌≡◌, sym, ◌∙◌, ap, subst}
use mathlib.Core.List.{List}
use Prim.Native.Nat.{ℕ, ◌≤◌}
use native.Mathlib.Omega.{arith}
use lib.ListN.{take}
use Rattle.hall.specs.Job.{Numbers, carriers}
use Rattle.hall.specs.Said.{accepted, refused}
use Rattle.hall.specs.Stages.{None}
use Rattle.hall.specs.Questions.{job_question}
use Rattle.hall.specs.Plan.{Plan}
use Rattle.hall.specs.Ticks.{Tables, own}
use Rattle.hall.proofs.Stages.{first_unique, none_excludes}
use Rattle.hall.proofs.PlanLaws.{plan_unique}
use Rattle.hall.proofs.Sound.{checks_of_none}
use Rattle.form.specs.Jobs.{line_of}
use Rattle.form.proofs.JobTexts.{job_unique, never_both, one_refusal, front_job}
use Rattle.report.specs.Printed.{plan_text, refused_text}
use Rattle.report.specs.Printing.{Prints}
use Rattle.report.specs.Answer.{JobAnswer, AnswerText, Answering}
use Rattle.report.proofs.JobAnswers.{text_same}
use Rattle.report.proofs.Unique.{prints_unique, untouched_unique}

one_plan_text : {j : Numbers} {t u : Tables} {tick tick' : ℕ → ℕ} {cost cost' : ℕ} →
    None (job_question j) → Plan j t tick cost → Plan j u tick' cost' →
    plan_text (carriers j) tick (own t) cost ≡ plan_text (carriers j) tick' (own u) cost'
one_plan_text {j} {t} {u} {tick} {tick'} {cost} {cost'} none p q =
    let same = plan_unique j (checks_of_none j none) t u tick tick' cost cost' p q in
    text_same (carriers j) tick tick' (own t) (own u) cost same.ticks (λ i h. same.tables.sg i i h h)
    ∙ ap (λ (c : ℕ). plan_text (carriers j) tick' (own u) c) same.costs

pub job_answer_unique : {j : Numbers} {a b : List ℕ} → JobAnswer j a → JobAnswer j b → a ≡ b
job_answer_unique {j} (JobAnswer.unreached h e) (JobAnswer.unreached h' e') =
    e ∙ ap (λ (i : ℕ). refused_text 8 (line_of j i)) (first_unique h h').1 ∙ sym e'
job_answer_unique (JobAnswer.unreached h e) (JobAnswer.planned none plan e') = absurd (none_excludes h none)
job_answer_unique (JobAnswer.planned none plan e) (JobAnswer.unreached h e') = absurd (none_excludes h none)
job_answer_unique (JobAnswer.planned none plan e) (JobAnswer.planned none' plan' e') =
    e ∙ one_plan_text none plan plan' ∙ sym e'

pub answer_text_unique : {text a b : List ℕ} → AnswerText text a → AnswerText text b → a ≡ b
answer_text_unique {text}
    (AnswerText.refused {number = n} {line = l} x e) (AnswerText.refused {number = m} {line = k} y e') =
    let same = one_refusal text n m l k x y in
    e ∙ (λ i. refused_text (same.0 i) (same.1 i)) ∙ sym e'
answer_text_unique {text} (AnswerText.refused x e) (AnswerText.accepted w t) =
    absurd (never_both text _ _ _ w x)
answer_text_unique {text} (AnswerText.accepted w t) (AnswerText.refused x e) =
    absurd (never_both text _ _ _ w x)
answer_text_unique {text} {a} (AnswerText.accepted {j = j} w t) (AnswerText.accepted {j = k} v u) =
    job_answer_unique (subst (λ (x : Numbers). JobAnswer x a) (job_unique text j k w v) t) u

pub answer_unique : {text out a b : List ℕ} {r s : ℕ} →
    Answering (AnswerText text) out a r → Answering (AnswerText text) out b s → (a ≡ b) × (r ≡ s)
answer_unique {text} {out} {a} {b} {r} {s} (Answering.whole long t p) (Answering.whole long' t' q) =
    prints_unique (subst (λ (x : List ℕ). Prints x out a r) (answer_text_unique t t') p) q
answer_unique (Answering.whole long t p) (Answering.nothing short u) = absurd (let x : ⊥ = omega arith in x)
answer_unique (Answering.nothing short u) (Answering.whole long t p) = absurd (let x : ⊥ = omega arith in x)
answer_unique (Answering.nothing short u) (Answering.nothing short' v) = untouched_unique u v

-- ---- a long input

front_text : (n : ℕ) (text : List ℕ) → 47111 ≤ n →
    {printed : List ℕ} → AnswerText (take n text) printed → AnswerText text printed
front_text n text h (AnswerText.refused {number = m} {line = l} x e) =
    AnswerText.refused ((front_job n h text (refused m l)).0 x) e
front_text n text h (AnswerText.accepted {j = j} w t) =
    AnswerText.accepted ((front_job n h text (accepted j)).0 w) t

pub answer_of_front : (n : ℕ) (text : List ℕ) → 47111 ≤ n → {out out' : List ℕ} {r : ℕ} →
    Answering (AnswerText (take n text)) out out' r → Answering (AnswerText text) out out' r
answer_of_front n text h (Answering.whole long t p) = Answering.whole long (front_text n text h t) p
answer_of_front n text h (Answering.nothing short u) = Answering.nothing short u
