-- The kinds of cases (second/README.md, "Batch format").
--     letter_of      the byte that stands for a kind in a batch
--     Decodes b r    r is the kind with this byte, or an error that has it, where it stands for no kind
use Rattle.std.specs.Prelude.{◌≡◌, ℕ, Result, MatchResult}
use Rattle.try_batch.specs.declared.kind.Kind.{Kind}
use Rattle.try_batch.specs.declared.kind.Kind.TheVariants.{PlanText, FillText, ReadText}
use Rattle.try_batch.specs.declared.kind.Kind.TheVariants.{HouseForText, HouseText, JudgeForText, JudgeText}
use Rattle.try_batch.specs.declared.kind.Kind.TheVariants.{ChooseText, WriteText}
use Rattle.try_batch.specs.declared.kind.Kind.TheVariants.{PlanNumbers, HouseNumbers, HouseJudgeNumbers}
use Rattle.try_batch.specs.declared.kind.Kind.TheVariants.{ChooseNumbers, WriteNumbers}
use Rattle.try_batch.specs.declared.kind.Kind.TheVariants.{ReadRecords, PlanRecords, HouseRecords, JudgeRecords}
use Rattle.try_batch.specs.declared.kind.Kind.TheVariants.{WriteRecords, Admit, MayStart, Trolleys}
use Rattle.try_batch.specs.declared.kind.NoKind.{NoKind}

abbrev pub letter_of : Kind → ℕ
letter_of PlanText = 80
letter_of FillText = 97
letter_of ReadText = 109
letter_of HouseForText = 72
letter_of HouseText = 104
letter_of JudgeForText = 81
letter_of JudgeText = 113
letter_of ChooseText = 67
letter_of WriteText = 87
letter_of PlanNumbers = 116
letter_of HouseNumbers = 119
letter_of HouseJudgeNumbers = 110
letter_of ChooseNumbers = 99
letter_of WriteNumbers = 120
letter_of ReadRecords = 114
letter_of PlanRecords = 112
letter_of HouseRecords = 111
letter_of JudgeRecords = 106
letter_of WriteRecords = 121
letter_of Admit = 66
letter_of MayStart = 71
letter_of Trolleys = 84

abbrev pub Decodes : ℕ → Result Kind NoKind → Type 0
Decodes letter r = MatchResult r (λ kind. letter_of kind ≡ letter) (λ e. (e.0 ≡ letter) × ((kind : Kind) → ¬ (letter_of kind ≡ letter)))
