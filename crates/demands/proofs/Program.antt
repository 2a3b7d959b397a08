-- What the program prints for a text is what the rules owe, from the promise of `report::answer` as it stands
-- in the source. A text writes one job at most, or is refused at its first faulty line, never both (form's
-- JobTexts); a job without faults of the listed checks is refused for 8, or has a plan, which is safe and
-- within the limits (hall's `plan_safe`, `plan_within`). For every text one of the two is so, and for one
-- number and line, so the rules owe one text, and it is printed. Assumes nothing.
--     answer_owed                  demands 1 to 3: what `answer` prints is owed
--     one_owed                     the rules owe one text
--     refused_printed, planned_printed    and it is printed: the refusal exactly with the number and the line
--                                         of the rules, the plan exactly where nothing is refused
--     never_refused_and_planned, one_refusal, one_or_the_other    the rules refuse a text or plan it, never
--                                                                 both, for one number and line
use mathlib.Core.Path.{◌≡◌, refl, sym, ◌∙◌, ap, subst}
use mathlib.Core.Logic.{◌⊎◌, inl, inr}
use mathlib.Core.List.{List}
use Prim.Native.Nat.{ℕ, ◌≤◌}
use native.Mathlib.Omega.{arith}
use lib.ListN.{length}
use Rattle.hall.specs.Job.{Numbers, carriers}
use Rattle.hall.specs.Stages.{First, None}
use Rattle.hall.specs.Said.{Said, accepted, refused, Fits}
use Rattle.hall.specs.Questions.{job_question}
use Rattle.hall.specs.Ticks.{Tables, own}
use Rattle.hall.specs.Plan.{Plan}
use Rattle.hall.proofs.Walks.{true_distance}
use Rattle.hall.proofs.Paths.{shortest_exists}
use Rattle.hall.proofs.Stages.{first_unique, none_excludes}
use Rattle.hall.proofs.Sound.{checks_of_none, only_eight}
use Rattle.hall.proofs.Demand.{plan_safe}
use Rattle.hall.proofs.PlanLaws.{plan_within}
use Rattle.hall.proofs.Exist.{plan_exists}
use Rattle.hall.proofs.Complete.{job_decided}
use Rattle.form.specs.Jobs.{WrittenJob, ReadsJob, line_of}
use Rattle.form.proofs.JobTexts as forms
use Rattle.form.proofs.JobTexts.{job_unique}
use Rattle.report.specs.Printed.{plan_text, refused_text}
use Rattle.report.specs.Printing.{Prints}
use Rattle.report.specs.Answer.{JobAnswer, AnswerText, Answering}
use Rattle.report.proofs.OneAnswer.{answer_text_unique}
use Rattle.demands.specs.Owed.{RefusedFor, at_line, no_walk, PlannedAs, Owed, refusal, schedule}

-- ---- a plan is all that is owed of it

pub planned_as : {text : List ℕ} {j : Numbers} {t : Tables} {tick : ℕ → ℕ} {cost : ℕ} →
    WrittenJob text j → None (job_question j) → Plan j t tick cost → PlannedAs text j t tick cost
planned_as {text} {j} {t} {tick} {cost} w none plan =
    let sound = checks_of_none j none in
    record {
      writes = w;
      no_fault = none;
      plan = plan;
      within = plan_within j sound t tick cost plan;
      paths = λ i h. shortest_exists (true_distance (plan.true_distances.start_goal i i h h) (plan.reached i h));
      safe = plan_safe j t tick cost sound plan;
    }

-- ---- what the program prints

text_owed : {text printed : List ℕ} → AnswerText text printed → Owed text printed
text_owed (AnswerText.refused at e) = refusal (at_line at) e
text_owed (AnswerText.accepted {j = j} w (JobAnswer.unreached {i = i} first e)) =
    refusal (no_walk j i w first refl refl) e
text_owed (AnswerText.accepted w (JobAnswer.planned none plan e)) = schedule (planned_as w none plan) e

-- the answer to a text stands in front of the lent bytes, and it is what is owed
pub answer_owed : {text out out' : List ℕ} {r : ℕ} → 2048 ≤ length out → Answering (AnswerText text) out out' r →
    (printed : List ℕ) × Owed text printed × Prints printed out out' r
answer_owed long (Answering.whole {printed = printed} room answer prints) = (printed, text_owed answer, prints)
answer_owed long (Answering.nothing short u) = absurd (let x : ⊥ = omega arith in x)

-- ---- the rules owe one text

owed_text : {text printed : List ℕ} → Owed text printed → AnswerText text printed
owed_text (refusal (at_line at) p) = AnswerText.refused at p
owed_text (refusal (no_walk j i w first e l) p) =
    AnswerText.accepted w (JobAnswer.unreached first (p ∙ λ k. refused_text (e k) (l k)))
owed_text (schedule a p) = AnswerText.accepted a.writes (JobAnswer.planned a.no_fault a.plan p)

pub one_owed : {text a b : List ℕ} → Owed text a → Owed text b → a ≡ b
one_owed x y = answer_text_unique (owed_text x) (owed_text y)

-- a text that is refused by the rules is printed so, and one that has a plan too
module _ {text printed : List ℕ} (owed : Owed text printed) where
  pub refused_printed : {n line : ℕ} → RefusedFor text n line → printed ≡ refused_text n line
  refused_printed r = one_owed owed (refusal r refl)

  pub planned_printed : {j : Numbers} {t : Tables} {tick : ℕ → ℕ} {cost : ℕ} → PlannedAs text j t tick cost →
      printed ≡ plan_text (carriers j) tick (own t) cost
  planned_printed a = one_owed owed (schedule a refl)

-- ---- refused or planned, never both, and refused for one number at one line

pub never_refused_and_planned : {text : List ℕ} {n line : ℕ} {j : Numbers} {t : Tables} {tick : ℕ → ℕ} {cost : ℕ} →
    RefusedFor text n line → ¬ PlannedAs text j t tick cost
never_refused_and_planned {text} {j = j} (at_line x) a = forms.never_both text j _ _ a.writes x
never_refused_and_planned {text} {j = j} (no_walk k i w first e l) a =
    none_excludes first (subst (λ (x : Numbers). None (job_question x)) (job_unique text j k a.writes w) a.no_fault)

pub one_refusal : {text : List ℕ} {n m line row : ℕ} → RefusedFor text n line → RefusedFor text m row →
    (n ≡ m) × (line ≡ row)
one_refusal {text} (at_line x) (at_line y) = forms.one_refusal text _ _ _ _ x y
one_refusal {text} (at_line x) (no_walk k i w first d l) = absurd (forms.never_both text k _ _ w x)
one_refusal {text} (no_walk k i w first d l) (at_line x) = absurd (forms.never_both text k _ _ w x)
one_refusal {text} (no_walk j i w first e l) (no_walk k q v second d m) =
    let same = job_unique text k j v w in
    let place = (first_unique first (subst (λ (x : Numbers). First (job_question x) 8 q) same second)).1 in (
      e ∙ sym d,
      l ∙ ap (line_of j) place ∙ ap (λ (x : Numbers). line_of x q) (sym same) ∙ sym m,
    )

pub record Planned (text : List ℕ) : Type 0 where
  pub job : Numbers
  pub tables : Tables
  pub tick : ℕ → ℕ
  pub cost : ℕ
  pub owed : PlannedAs text job tables tick cost

pub record RefusedSomewhere (text : List ℕ) : Type 0 where
  pub number : ℕ
  pub line : ℕ
  pub owed : RefusedFor text number line

pub one_or_the_other : (text : List ℕ) → Planned text ⊎ RefusedSomewhere text
one_or_the_other text = by_form (forms.one_answer text).0 (forms.one_answer text).1
  where
    by_job : (j : Numbers) → WrittenJob text j → (s : Said Unit) → Fits (job_question j) s →
        Planned text ⊎ RefusedSomewhere text
    by_job j w (accepted u) none =
        let p = plan_exists j none in
        inl (record {
          job = j;
          tables = p.tables;
          tick = p.tick;
          cost = p.cost;
          owed = planned_as w none p.plan;
        })
    by_job j w (refused n i) first =
        let eight = (only_eight j w.sound first).0 in
        inr (record {
          number = 8;
          line = line_of j i;
          owed = no_walk j i w (subst (λ (m : ℕ). First (job_question j) m i) eight first) refl refl;
        })

    by_form : (s : Said Numbers) → ReadsJob text s → Planned text ⊎ RefusedSomewhere text
    by_form (accepted j) w = by_job j w (job_decided j).answer (job_decided j).fits
    by_form (refused n line) x = inr (record { number = n; line = line; owed = at_line x })
