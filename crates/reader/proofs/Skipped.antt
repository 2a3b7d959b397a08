-- Sections that are passed over, since they may be missing and no line of their counts stands here. Which
-- line may come next is the same with them and without them, and so is whether the text may end: what stands
-- at the front of the rest is no line of theirs. Assumes nothing.
--     skips_back, skips_on    the section whose line stands here may come next of all the sections exactly
--                             if it may of those left
--     skips_lack              all the sections may be missing exactly if those left may
--     skip_more               one more section is missing
--     skipped_lacking         no line stands of the first section left, which may not be missing: refused
--     skipped_over            no section is left, and bytes are: refused
use mathlib.Core.Path.{◌≡◌, refl, sym, ◌∙◌, subst}
use mathlib.Core.Logic.{◌↔◌}
use mathlib.Core.List.{List, [], ◌∷◌, cons≢nil}
use mathlib.Core.Bool.{true, false}
use Prim.Native.Nat.{ℕ}
use native.Mathlib.Omega.{arith}
use Rattle.hall.specs.declared.Fault.TheVariants.{Malformed}
use Rattle.hall.specs.Numbers.{number_of}
use Rattle.form.specs.Lines.{Counted}
use Rattle.form.specs.Sections.{Section, Form}
use Rattle.form.specs.Contents.{Picks, first, past, MayLack}
use Rattle.form.specs.Stands.{Stand, behind, Whole}
use Rattle.form.specs.Texts.{Refused}
use Rattle.form.specs.Reached.{Reached}
use Rattle.form.proofs.Reached.{count_lacking}
use Rattle.reader.specs.Sections.{Skips, all_left, skip}

pub not_both : (s : Section) → s.optional ≡ false → s.optional ≡ true → ⊥
not_both s must may =
    let z : ◌≡◌ {A = ℕ} 0 1 = let x : true ≡ false = sym may ∙ must in cc in
    let y : ⊥ = omega arith in
    y

pub skips_back : {rest : List ℕ} {more from left : Form} {s : Section} → Skips rest more from
    → Picks from s left → Picks more s left
skips_back (all_left _) p = p
skips_back {left = left} {s = s} (skip o more _ may none x) p = past o s more left may (skips_back x p)

pub skips_on : {rest : List ℕ} {more from left : Form} {s : Section} → Skips rest more from
    → Picks more s left → Counted s.word rest → Picks from s left
skips_on (all_left _) p c = p
skips_on (skip o more _ may none x) (first _ _) c = absurd (none c)
skips_on (skip o more _ may none x) (past _ _ _ _ h p) c = skips_on x p c

pub skips_lack : {rest : List ℕ} {more left : Form} → Skips rest more left → MayLack more ↔ MayLack left
skips_lack (all_left _) = (λ h. h, λ h. h)
skips_lack (skip o more _ may none x) = (λ h. (skips_lack x).0 h.1, λ h. (may, (skips_lack x).1 h))

pub skip_more : {rest : List ℕ} {more from : Form} (s : Section) (left : Form) → Skips rest more from
    → from ≡ s ∷ left → s.optional ≡ true → ¬ Counted s.word rest
    → Skips rest more left
skip_more {rest} s left (all_left _) e may none =
    subst (λ (f : Form). Skips rest f left) (sym e) (skip s left left may none (all_left left))
skip_more s left (skip o more _ h k x) e may none = skip o more left h k (skip_more s left x e may none)

-- ---- refusals

not_first : {rest : List ℕ} {o s : Section} {more left : Form} → Picks (o ∷ more) s left → o.optional ≡ false
    → ¬ Counted o.word rest → Counted s.word rest → ⊥
not_first (first _ _) must none c = none c
not_first (past o _ _ _ h p) must none c = not_both o must h

none_first : {more left : Form} {s : Section} → Picks more s left → more ≡ [] → ⊥
none_first (first s left) e = cons≢nil e
none_first (past o s more left h p) e = cons≢nil e

module _ (F : Form) (text : List ℕ) {st : Stand} {rest : List ℕ} {line : ℕ}
    (r : Reached F text st rest line) (whole : Whole st) where
  pub skipped_lacking : (s : Section) (left : Form) → Skips rest (behind F st) (s ∷ left)
      → s.optional ≡ false → ¬ Counted s.word rest → Refused F text (number_of Malformed) line
  skipped_lacking s left x must none =
      count_lacking F text r whole
      (λ p. not_first (skips_on x p.picks p.counted) must none p.counted)
      (λ h. not_both s must ((skips_lack x).0 h.0.1).0)

  pub skipped_over : Skips rest (behind F st) [] → ¬ (rest ≡ []) → Refused F text (number_of Malformed) line
  skipped_over x some =
      count_lacking F text r whole
      (λ p. none_first (skips_on x p.picks p.counted) refl)
      (λ h. some h.1)
