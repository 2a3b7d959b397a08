-- Two outcomes that fit a promise of printing are equal, in the answer and in the lent bytes. Whether a plan
-- can be asked for, or there is room for a refusal, depends on the input alone; where it can, the text fixes
-- the bytes and the answer, and where not, the bytes are as they came. Assumes nothing.
use mathlib.Core.Path.{◌≡◌, sym, ◌∙◌}
use mathlib.Core.List.{List}
use Prim.Native.Nat.{ℕ}
use native.Mathlib.Omega.{arith}
use Rattle.report.specs.Printing.{Prints, BytesUntouched, PlanPrinting, RefusedPrinting}

pub prints_unique : {text out a b : List ℕ} {r s : ℕ} →
    Prints text out a r → Prints text out b s → (a ≡ b) × (r ≡ s)
prints_unique p q = (p.bytes ∙ sym q.bytes, p.size ∙ sym q.size)

pub untouched_unique : {out a b : List ℕ} {r s : ℕ} →
    BytesUntouched out a r → BytesUntouched out b s → (a ≡ b) × (r ≡ s)
untouched_unique p q = (p.bytes ∙ sym q.bytes, p.size ∙ sym q.size)

pub plan_printing_unique : {carriers : ℕ} {distances ticks : List ℕ} {cost : ℕ} {out a b : List ℕ} {r s : ℕ} →
    PlanPrinting carriers distances ticks cost out a r → PlanPrinting carriers distances ticks cost out b s →
    (a ≡ b) × (r ≡ s)
plan_printing_unique (PlanPrinting.whole ask p) (PlanPrinting.whole ask' q) = prints_unique p q
plan_printing_unique (PlanPrinting.whole ask p) (PlanPrinting.nothing none q) = absurd (none ask)
plan_printing_unique (PlanPrinting.nothing none p) (PlanPrinting.whole ask q) = absurd (none ask)
plan_printing_unique (PlanPrinting.nothing none p) (PlanPrinting.nothing none' q) = untouched_unique p q

pub refused_printing_unique : {number line : ℕ} {out a b : List ℕ} {r s : ℕ} →
    RefusedPrinting number line out a r → RefusedPrinting number line out b s → (a ≡ b) × (r ≡ s)
refused_printing_unique (RefusedPrinting.whole room p) (RefusedPrinting.whole room' q) = prints_unique p q
refused_printing_unique (RefusedPrinting.whole room p) (RefusedPrinting.nothing short q) =
    absurd (let x : ⊥ = omega arith in x)
refused_printing_unique (RefusedPrinting.nothing short p) (RefusedPrinting.whole room q) =
    absurd (let x : ⊥ = omega arith in x)
refused_printing_unique (RefusedPrinting.nothing short p) (RefusedPrinting.nothing short' q) =
    untouched_unique p q
