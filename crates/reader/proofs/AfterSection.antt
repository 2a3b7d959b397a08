-- One section more: what holds behind a section that was read, or that is missing. A step hands on what holds
-- before it to what holds behind it, or refuses the text. Assumes nothing.
--     stood_behind     the form leads behind a section that was read
--     few_counted      its count is at most the greatest
--     stood_past       the form leads past a section that is missing
--     not_missing      a section that must stand is not missing
--     After text P q   P holds of the counts and the place that q answers, or q is the refusal that the form
--                      gives the text
--     step_after       the step leads from P to Q
use mathlib.Core.Path.{◌≡◌, refl, sym, subst}
use mathlib.Core.Logic.{inl, inr}
use mathlib.Core.List.{List, [], ◌∷◌, ◌++◌}
use mathlib.Core.Bool.{false}
use Prim.Native.Nat.{ℕ, ◌≤◌}
use Rattle.std.specs.Prelude.{Result, Ok, Err}
use Rattle.hall.specs.declared.Refusal.{Refusal}
use Rattle.hall.specs.declared.Job.{Job}
use Rattle.form.specs.Sections.{Form, Content, content}
use Rattle.form.specs.Stands.{within}
use Rattle.form.specs.JobText.{job_text}
use Rattle.form.proofs.Tables.{collected_whole}
use Rattle.form.proofs.Lengths.{most, fine_room}
use Rattle.cursor.specs.declared.Cursor.{Cursor}
use Rattle.reader.specs.declared.sections.Sections.{Sections}
use Rattle.reader.specs.Entries.{RefusedBy}
use Rattle.reader.specs.Sections.{in_form, all_left, Stood, Ready}
use Rattle.reader.specs.Sections.{SectionRead, SectionMissing, SectionAnswer, SectionStep}
use Rattle.reader.proofs.Skipped.{not_both, skip_more}

-- ---- a section that was read

module _ {text : List ℕ} {read : List Content} {which : Sections} {left : Form} {job job' : Job}
    {next : Cursor} {before after : List ℕ}
    (x : SectionRead text read which left job job' next before after) where
  pub stood_behind :
      Stood text (read ++ (content (in_form which).word x.count x.collected.es ∷ [])) left next
  stood_behind = record {
    stand = within read (in_form which) x.count x.collected.es left;
    reached = x.collected.reached;
    whole = collected_whole job_text text read (in_form which) x.count left x.collected refl;
    is_read = refl;
    is_left = all_left left;
  }

  pub few_counted : x.count ≤ most (in_form which).limits
  few_counted = (fine_room job_text x.collected.reached.fine).within_limits

-- ---- a section that is missing

module _ {text : List ℕ} {which : Sections} {job job' : Job} {here next : Cursor} {before after : List ℕ}
    (x : SectionMissing text which job job' here next before after) where
  pub stood_past : (read : List Content) (left : Form) → Stood text read (in_form which ∷ left) here
      → Stood text read left next
  stood_past read left y =
      subst (Stood text read left) (sym x.same_place)
      (record {
        stand = y.stand;
        reached = y.reached;
        whole = y.whole;
        is_read = y.is_read;
        is_left = skip_more (in_form which) left y.is_left refl x.may x.none;
      })

  pub not_missing : (in_form which).optional ≡ false → ⊥
  not_missing must = not_both (in_form which) must x.may

-- ---- a step

abbrev pub After : (text : List ℕ) (P : Job → Cursor → Type 0) → Result (Job × Cursor) Refusal → Type 0
After text P (Ok (job, here)) = P job here
After text P (Err r) = RefusedBy text r

-- what is read of the section is a step from P to Q, and so is that it is missing
pub step_after : (text closed : List ℕ) (which : Sections) (P : Job → Cursor → Type 0)
    (ready : (job : Job) (here : Cursor) → P job here → Ready text closed which job here)
    (before after : List ℕ) (Q : Job → Cursor → Type 0)
    → ((job job' : Job) (here next : Cursor) (x : P job here)
    → SectionRead text (ready job here x).read which (ready job here x).left job job' next before after
    → Q job' next)
    → ((job job' : Job) (here next : Cursor) → P job here
    → SectionMissing text which job job' here next before after
    → Q job' next)
    → (job : Job) (here : Cursor) (q : Result (Job × Cursor) Refusal) → P job here
    → SectionStep text closed which job here before after q
    → After text Q q
step_after text closed which P ready before after Q onward past job here q x step =
    let r = ready job here x in
    answer q (step.takes r.read r.left r.asks r.stood)
  where
    answer : (q : Result (Job × Cursor) Refusal)
        → SectionAnswer text which before after (ready job here x).read (ready job here x).left job here q
        → After text Q q
    answer (Ok (job', next)) (inl a) = onward job job' here next x a
    answer (Ok (job', next)) (inr a) = past job job' here next x a
    answer (Err r) a = a
