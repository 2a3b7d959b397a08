-- A letter has one kind, so a byte decodes to one answer: `kind_at` leads back from the letter of a kind to the
-- kind. This is the one law that goes through the kinds one by one. Assumes nothing.
--     kind_at          the kind with a letter; what it is for a byte that stands for none does not matter
--     letter_one_kind  two kinds with one letter are the same
--     decodes_unique   two answers that fit one byte are the same
use Rattle.std.proofs.Common.{◌≡◌, refl, sym, ◌∙◌, ap, ℕ, cond, eqb, Result, Ok, Err}
use Rattle.try_batch.specs.declared.kind.Kind.{Kind}
use Rattle.try_batch.specs.declared.kind.Kind.TheVariants.{PlanText, FillText, ReadText}
use Rattle.try_batch.specs.declared.kind.Kind.TheVariants.{HouseForText, HouseText, JudgeForText, JudgeText}
use Rattle.try_batch.specs.declared.kind.Kind.TheVariants.{ChooseText, WriteText}
use Rattle.try_batch.specs.declared.kind.Kind.TheVariants.{PlanNumbers, HouseNumbers, HouseJudgeNumbers}
use Rattle.try_batch.specs.declared.kind.Kind.TheVariants.{ChooseNumbers, WriteNumbers}
use Rattle.try_batch.specs.declared.kind.Kind.TheVariants.{ReadRecords, PlanRecords, HouseRecords, JudgeRecords}
use Rattle.try_batch.specs.declared.kind.Kind.TheVariants.{WriteRecords, Admit, MayStart, Trolleys}
use Rattle.try_batch.specs.declared.kind.NoKind.{NoKind}
use Rattle.try_batch.specs.Kinds.{letter_of, Decodes}

abbrev kind_at : ℕ → Kind
kind_at n =
    cond (eqb n 80) PlanText
    (cond (eqb n 97) FillText
    (cond (eqb n 109) ReadText
    (cond (eqb n 72) HouseForText
    (cond (eqb n 104) HouseText
    (cond (eqb n 81) JudgeForText
    (cond (eqb n 113) JudgeText
    (cond (eqb n 67) ChooseText
    (cond (eqb n 87) WriteText
    (cond (eqb n 116) PlanNumbers
    (cond (eqb n 119) HouseNumbers
    (cond (eqb n 110) HouseJudgeNumbers
    (cond (eqb n 99) ChooseNumbers
    (cond (eqb n 120) WriteNumbers
    (cond (eqb n 114) ReadRecords
    (cond (eqb n 112) PlanRecords
    (cond (eqb n 111) HouseRecords
    (cond (eqb n 106) JudgeRecords
    (cond (eqb n 121) WriteRecords
    (cond (eqb n 66) Admit
    (cond (eqb n 71) MayStart
    (cond (eqb n 84) Trolleys PlanText)))))))))))))))))))))

back : (k : Kind) → kind_at (letter_of k) ≡ k
back PlanText = refl
back FillText = refl
back ReadText = refl
back HouseForText = refl
back HouseText = refl
back JudgeForText = refl
back JudgeText = refl
back ChooseText = refl
back WriteText = refl
back PlanNumbers = refl
back HouseNumbers = refl
back HouseJudgeNumbers = refl
back ChooseNumbers = refl
back WriteNumbers = refl
back ReadRecords = refl
back PlanRecords = refl
back HouseRecords = refl
back JudgeRecords = refl
back WriteRecords = refl
back Admit = refl
back MayStart = refl
back Trolleys = refl

pub letter_one_kind : (k l : Kind) → letter_of k ≡ letter_of l → k ≡ l
letter_one_kind k l e = sym (back k) ∙ ap kind_at e ∙ back l

pub decodes_unique : (b : ℕ) (r s : Result Kind NoKind) → Decodes b r → Decodes b s → r ≡ s
decodes_unique b (Ok k) (Ok l) f g = ap Ok (letter_one_kind k l (f ∙ sym g))
decodes_unique b (Ok k) (Err e) f g = absurd (g.1 k f)
decodes_unique b (Err e) (Ok k) f g = absurd (f.1 k g)
decodes_unique b (Err d) (Err e) f g =
    let same : d.0 ≡ e.0 = f.0 ∙ sym g.0 in
    ap (λ (x : ℕ). Err (record { 0 = x })) same
