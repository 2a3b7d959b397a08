-- The steps of whatever reads a text line by line. A reader that holds a place in the text and the number of
-- the line there stands, in the text, before the rest; what it has read is a stand, its tables hold that
-- stand's contents. Each line that it passes is one step below, each answer one of the two ends. No step
-- looks back at an earlier line and none looks at a later section. Assumes nothing.
--     at_start           a reader begins at line 1 with the whole text
--     past_count         a line of a word and a count that fits was read; past_entry a line of an entry that
--                        passes
--     count_refused      such a line was read, and its count does not fit; entry_refused its entry fails a
--                        check
--     count_lacking      there is no line of any section that may come next, nor the end; entry_lacking no
--                        line of an entry
--     first_lacking      there is no line of the section that must come next
--     NoneStands         none of these sections has the line of its count at the front of a text
--     left_over          no section that is left stands, and there are bytes left
--     at_end             the text ends where it may
use mathlib.Core.Path.{◌≡◌, refl, sym, ◌∙◌, ap, subst}
use mathlib.Core.Logic.{inl, inr}
use mathlib.Core.List.{List, [], ◌∷◌, ◌++◌, append_assoc, append-nil}
use mathlib.Core.Bool.{true, false}
use Prim.Native.Nat.{ℕ, suc, ◌<◌}
use native.Mathlib.Omega.{arith}
use lib.ListN.{length}
use Rattle.hall.specs.declared.Fault.TheVariants.{Malformed, BadCount}
use Rattle.hall.specs.Numbers.{number_of}
use Rattle.form.specs.Lines.{entry_line, count_line, Counted, Entered}
use Rattle.form.specs.Sections.{Section, Form, Content, CountFits, due}
use Rattle.form.specs.Contents.{Picks, first, past, MayLack, LinePasses, LineFaulty, written, line_count}
use Rattle.form.specs.Stands.{Stand, start, within, contents, behind, Whole, NextLine, count, entry, PassesAt}
use Rattle.form.specs.Stands.{nothing, onward, Ends}
use Rattle.form.specs.Texts.{Stops, formless, failing, WrittenForm, Refused}
use Rattle.form.specs.Reached.{Reached}
use Rattle.form.proofs.SoundTexts.{finished_sound}
use Rattle.form.proofs.Steps.{next_written, next_counted}
use Rattle.form.proofs.StepTests.{Picked, EntryNext, which}

abbrev pub NoneStands : Form → (rest : List ℕ) → Type 0
NoneStands [] rest = Unit
NoneStands (s ∷ left) rest = ¬ Counted s.word rest × NoneStands left rest

none_picked : {rest : List ℕ} {more left : Form} {s : Section} → Picks more s left → NoneStands more rest
    → ¬ Counted s.word rest
none_picked (first s left) none = none.0
none_picked (past o s more left h p) none = none_picked p none.1

module _ (F : Form) (text : List ℕ) where
  pub at_start : Reached F text start text 1
  unfolding written line_count
  at_start = record { fine = nothing; begins = refl; here = refl }

  pub past_line : {st to : Stand} {l rest : List ℕ} {line : ℕ} (more : List ℕ) → Reached F text st rest line
      → NextLine F st l to → rest ≡ l ++ more
      → PassesAt to → Reached F text to more (suc line)
  past_line {st} {to} {l} {rest} more r x e p =
      let behind_it : text ≡ written (contents st) ++ (l ++ more) =
      r.begins ∙ ap (λ (t : List ℕ). written (contents st) ++ t) e in
      record {
        fine = onward st to l r.fine x p;
        begins = behind_it ∙ sym (append_assoc (written (contents st)) l more)
            ∙ ap (λ (t : List ℕ). t ++ more) (sym (next_written F x));
        here = ap suc (r.here ∙ sym (next_counted F x));
      }

  pub refused_here : {st : Stand} {rest : List ℕ} {line : ℕ} {f : ℕ} → Reached F text st rest line
      → Stops F st rest f → Refused F text f line
  refused_here {st} {rest} r s =
      record { stand = st; fine = r.fine; rest = rest; begins = r.begins; stops = s; here = r.here }

  pub at_end : {st : Stand} {rest : List ℕ} {line : ℕ} → Reached F text st rest line → Ends F st → rest ≡ []
      → WrittenForm F text (contents st)
  at_end {st} r ends e =
      record {
        sound = finished_sound F st r.fine ends;
        writes = r.begins ∙ ap (λ (t : List ℕ). written (contents st) ++ t) e
            ∙ append-nil (written (contents st));
      }

  -- ---- a line of a word and a count

  module _ {st : Stand} {rest : List ℕ} {line : ℕ} (r : Reached F text st rest line) (whole : Whole st) where
    pub past_count : (s : Section) (left : Form) → Picks (behind F st) s left
        → (c : Counted s.word rest) → CountFits s.limits (contents st) c.n
        → Reached F text (within (contents st) s c.n [] left) c.rest (suc line)
    past_count s left p c fits =
        past_line c.rest r (count st s c.n left whole p c.small) c.begins fits

    pub count_refused : (s : Section) (left : Form) → Picks (behind F st) s left
        → (c : Counted s.word rest)
        → ¬ CountFits s.limits (contents st) c.n → Refused F text (number_of BadCount) line
    count_refused s left p c unfit =
        refused_here r (failing (count_line s.word c.n) (within (contents st) s c.n [] left) c.rest
        (count st s c.n left whole p c.small) c.begins (refl, unfit))

  -- ---- a line of an entry

  module _ {read : List Content} {s : Section} {n : ℕ} {es : List (List ℕ)} {left : Form}
      {rest : List ℕ} {line : ℕ}
      (r : Reached F text (within read s n es left) rest line) (inside : length es < due s n) where
    pub past_entry : (x : Entered s.size rest) → LinePasses read s n (es ++ (x.e ∷ []))
        → Reached F text (within read s n (es ++ (x.e ∷ [])) left) x.rest (suc line)
    past_entry x p = past_line x.rest r (entry read s n es left x.e inside x.sized x.small)
        x.begins p

    pub entry_refused : (x : Entered s.size rest) (f : ℕ) → LineFaulty read s n (es ++ (x.e ∷ [])) f
        → Refused F text f line
    entry_refused x f h =
        refused_here r (failing (entry_line x.e) (within read s n (es ++ (x.e ∷ [])) left) x.rest
        (entry read s n es left x.e inside x.sized x.small) x.begins h)

  -- ---- no line of the expected form

  module _ {st : Stand} {rest : List ℕ} {line : ℕ} (r : Reached F text st rest line) (whole : Whole st) where
    pub count_lacking : ¬ Picked (behind F st) rest → ¬ (Ends F st × (rest ≡ []))
        → Refused F text (number_of Malformed) line
    count_lacking none no_end = refused_here r (formless refl no_line no_end)
      where
        none_due : (st : Stand) → Whole st → ¬ EntryNext st rest
        none_due start w h = h
        none_due (within read s n es left) w h = let l = h.0 in let x : ⊥ = omega arith in x

        no_line : (l : List ℕ) (to : Stand) (more : List ℕ) → NextLine F st l to → ¬ (rest ≡ l ++ more)
        no_line l to more x e =
            elim (which F rest more x e) [ inl h ↦ none h.1 | inr h ↦ none_due st whole h ]

  module _ {read : List Content} {s : Section} {n : ℕ} {es : List (List ℕ)} {left : Form}
      {rest : List ℕ} {line : ℕ}
      (r : Reached F text (within read s n es left) rest line) (inside : length es < due s n) where
    pub entry_lacking : ¬ Entered s.size rest → Refused F text (number_of Malformed) line
    entry_lacking none =
        refused_here r (formless refl no_line (λ h. let w = h.0.0 in let x : ⊥ = omega arith in x))
      where
        no_line : (l : List ℕ) (to : Stand) (more : List ℕ) → NextLine F (within read s n es left) l to
            → ¬ (rest ≡ l ++ more)
        no_line l to more x e =
            elim (which F rest more x e)
            [ inl h ↦ (let w = h.0 in let y : ⊥ = omega arith in y) | inr h ↦ none h.1 ]

  -- ---- a section that must come next, and the end

  module _ {st : Stand} {rest : List ℕ} {line : ℕ} (r : Reached F text st rest line) (whole : Whole st) where
    pub first_lacking : (s : Section) (left : Form) → behind F st ≡ s ∷ left → s.optional ≡ false
        → ¬ Counted s.word rest → Refused F text (number_of Malformed) line
    first_lacking s left e must none =
        count_lacking r whole (λ p. no_pick p.picks p.counted e)
        (λ h. must_stand (subst MayLack e h.0.1).0)
      where
        must_stand : s.optional ≡ true → ⊥
        must_stand q = let z : ◌≡◌ {A = ℕ} 0 1 = let x : true ≡ false = sym q ∙ must in cc in
            let y : ⊥ = omega arith in y

        same_first : {o s' : Section} {more left' : Form} → o ∷ more ≡ s' ∷ left' → o ≡ s'
        same_first q = cc

        no_pick : {more left' : Form} {s' : Section} → Picks more s' left' → Counted s'.word rest
            → more ≡ s ∷ left → ⊥
        no_pick (first o _) c q = none (subst (λ (x : Section). Counted x.word rest) (same_first q) c)
        no_pick (past o _ _ _ h p) c q =
            must_stand (subst (λ (x : Section). x.optional ≡ true) (same_first q) h)

    pub left_over : NoneStands (behind F st) rest → ¬ (rest ≡ []) → Refused F text (number_of Malformed) line
    left_over none some =
        count_lacking r whole (λ p. none_picked p.picks none p.counted) (λ h. some h.1)
