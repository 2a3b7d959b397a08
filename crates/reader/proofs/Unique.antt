-- Two outcomes that fit the promise of `read_numbers` are equal, answers and tables: a text writes one job at
-- most or is refused with one number at one line, never both, and which of these it is with the tables as
-- they came determines what is left; and what an answer says tells the answer. Assumes nothing.
--     said_read_one      what an answer of reading says tells the answer
--     reason_unique      a reading is refused with one number at one line at most
--     no_reason          none to refuse the text of a job where the tables are long enough
--     accepted_refused   no text is accepted and refused
--     said_unique        two outcomes say the same and leave the same
--     read_unique        the same of answers
use mathlib.Core.Path.{◌≡◌, sym, ◌∙◌, ap}
use mathlib.Core.List.{List}
use Prim.Native.Nat.{ℕ}
use native.Mathlib.Omega.{arith}
use Rattle.std.specs.Prelude.{Result, Ok, Err}
use Rattle.hall.specs.declared.Refusal.{Refusal}
use Rattle.hall.specs.declared.Job.{Job}
use Rattle.hall.specs.Job.{Numbers}
use Rattle.hall.specs.Numbers.{number_of}
use Rattle.hall.specs.Said.{Said, accepted, refused}
use Rattle.hall.proofs.Numbers.{number_one_fault}
use Rattle.form.specs.Jobs.{WrittenJob}
use Rattle.form.proofs.JobTexts.{job_unique, never_both, one_refusal}
use Rattle.reader.specs.Reading.{said_read, counts_of, AnyShort, AcceptedAs, ReadInto}
use Rattle.reader.specs.Reading.{Reason, short, faulty}

pub said_read_one : (a b : Result Job Refusal) → said_read a ≡ said_read b → a ≡ b
said_read_one (Ok i) (Ok j) e = let same : i ≡ j = cc in ap Ok same
said_read_one (Ok i) (Err r) e = absurd (let z : ◌≡◌ {A = ℕ} 0 1 = cc in omega arith)
said_read_one (Err r) (Ok i) e = absurd (let z : ◌≡◌ {A = ℕ} 0 1 = cc in omega arith)
said_read_one (Err r) (Err s) e =
    let number : number_of r.fault ≡ number_of s.fault = cc in
    let place : r.place ≡ s.place = cc in
    let fault = number_one_fault r.fault s.fault number in
    λ i. Err (record { fault = fault i; place = place i })

pub reason_unique : {Short : Type 0} (text : List ℕ) (n m line at : ℕ)
    → Reason Short text n line → Reason Short text m at
    → (n ≡ m) × (line ≡ at)
reason_unique text n m line at (short h a b) (short k c d) = (a ∙ sym c, b ∙ sym d)
reason_unique text n m line at (short h a b) (faulty k y) = absurd (k h)
reason_unique text n m line at (faulty h x) (short k c d) = absurd (h k)
reason_unique text n m line at (faulty h x) (faulty k y) = one_refusal text n m line at x y

-- a text that writes a job has no reason where the tables are long enough
pub no_reason : {Short : Type 0} (text : List ℕ) (j : Numbers) (n line : ℕ) → ¬ Short → WrittenJob text j
    → ¬ Reason Short text n line
no_reason text j n line long w (short h a b) = long h
no_reason text j n line long w (faulty h r) = never_both text j n line w r

module _ (text lanes closed moves order : List ℕ) where
  pub accepted_refused : (l c m o : List ℕ) (counts : Job) (n line : ℕ)
      → AcceptedAs text lanes closed moves order l c m o counts
      → ¬ Reason (AnyShort lanes closed moves order) text n line
  accepted_refused l c m o counts n line x = no_reason text x.job n line x.long x.writes

  module _ (l l' c c' m m' o o' : List ℕ) where
    pub said_unique : (s s' : Said Job)
        → ReadInto text lanes closed moves order l c m o s
        → ReadInto text lanes closed moves order l' c' m' o' s'
        → (s ≡ s') × (l ≡ l') × (c ≡ c') × (m ≡ m') × (o ≡ o')
    said_unique (accepted i) (accepted j) x y =
        let e = job_unique text x.job y.job x.writes y.writes in
        (ap accepted (x.is_counts ∙ ap counts_of e ∙ sym y.is_counts), (cc), (cc), (cc), (cc))
    said_unique (accepted i) (refused n line) x y = absurd (accepted_refused l c m o i n line x y.reason)
    said_unique (refused n line) (accepted j) x y = absurd (accepted_refused l' c' m' o' j n line y x.reason)
    said_unique (refused n line) (refused n' line') x y =
        let e = reason_unique text n n' line line' x.reason y.reason in
        let number = e.0 in
        ((λ i. refused (e.0 i) (e.1 i)), (cc), (cc), (cc), (cc))

    pub read_unique : (r r' : Result Job Refusal)
        → ReadInto text lanes closed moves order l c m o (said_read r)
        → ReadInto text lanes closed moves order l' c' m' o' (said_read r')
        → (r ≡ r') × (l ≡ l') × (c ≡ c') × (m ≡ m') × (o ≡ o')
    read_unique r r' x y =
        let e = said_unique (said_read r) (said_read r') x y in
        (said_read_one r r' e.0, e.1, e.2, e.3, e.4)
