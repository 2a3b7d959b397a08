-- The promise of `read_job` in both directions: whatever fits it is refused with a number at a line exactly
-- when there is that reason, and accepted exactly when the tables are long enough and the text writes a job,
-- as that job, which the tables then hold. A text's lines count from 1, so that line 0 is told by a short
-- table alone. Two outcomes are equal. Assumes nothing.
--     refused_exactly, accepted_exactly, nine_exactly    refused with a number at a line, accepted as a job,
--                                                        9 at line 0: exactly when
--     accepted_holds     what is accepted as a job leaves its numbers in the tables
--     reading_unique       two outcomes say the same and leave the same
use mathlib.Core.Path.{◌≡◌, refl, sym, ◌∙◌, ap, subst}
use mathlib.Core.Logic.{◌↔◌}
use mathlib.Core.List.{List}
use Prim.Native.Nat.{ℕ}
use native.Mathlib.Omega.{arith}
use Rattle.hall.specs.declared.Job.{Job}
use Rattle.hall.specs.Limits.{node_limit, carrier_limit, lane_numbers}
use Rattle.hall.specs.Job.{Numbers}
use Rattle.hall.specs.Said.{Said, accepted, refused}
use Rattle.hall.specs.Left.{filled}
use Rattle.records.specs.declared.Record.{Record}
use Rattle.form.specs.Jobs.{WrittenJob}
use Rattle.form.proofs.JobTexts.{job_unique}
use Rattle.reader.specs.Reading.{counts_of, Reason, short, faulty}
use Rattle.reader.proofs.Unique.{reason_unique, no_reason}
use Rattle.recorded.specs.Reading.{LentShort, filled_records, JobAccepted, GivenJob, job_as_read}
use Rattle.recorded.proofs.ReadJob.{read_back, read_is_written}

module _ (text lanes closed : List ℕ) (records : List Record) (order : List ℕ) (l cs : List ℕ)
    (rs : List Record) (o : List ℕ) where
  accepted_refused : (counts : Job) (n line : ℕ) → JobAccepted text lanes closed records order l cs rs o counts
      → ¬ Reason (LentShort lanes closed records order) text n line
  accepted_refused counts n line x = no_reason text x.job n line x.long x.writes

  pub refused_exactly : (s : Said Job) → GivenJob text lanes closed records order l cs rs o s → (n line : ℕ)
      → (s ≡ refused n line) ↔ Reason (LentShort lanes closed records order) text n line
  refused_exactly (accepted counts) x n line = (
    λ e. absurd (let z : ◌≡◌ {A = ℕ} 0 1 = cc in omega arith),
    λ why. absurd (accepted_refused counts n line x why),
  )
  refused_exactly (refused k at) x n line = (
    λ e.
        let number : k ≡ n = cc in
        let place : at ≡ line = cc in
        rw (number, place) at x.reason,
    λ why.
        let e = reason_unique text k n at line x.reason why in
        λ i. refused (e.0 i) (e.1 i),
  )

  pub nine_exactly : (s : Said Job) → GivenJob text lanes closed records order l cs rs o s
      → (s ≡ refused 9 0) ↔ LentShort lanes closed records order
  nine_exactly s x =
      let iff = refused_exactly s x 9 0 in
      (λ e. only_short (iff.0 e), λ h. iff.1 (short h refl refl))
    where
      only_short : Reason (LentShort lanes closed records order) text 9 0 → LentShort lanes closed records order
      only_short (short h a b) = h
      only_short (faulty h r) = absurd (let z : ⊥ = omega (arith, r.here) in z)

  module _ (long : ¬ LentShort lanes closed records order) (j : Numbers) (w : WrittenJob text j) where
    pub accepted_holds : (s : Said Job) → GivenJob text lanes closed records order l cs rs o s
        → (s ≡ accepted (counts_of j))
        × (l ≡ filled j.network.lanes lane_numbers lanes)
        × (cs ≡ filled j.network.closed node_limit closed)
        × (rs ≡ filled_records j.moves records)
        × (o ≡ filled j.order carrier_limit order)
    accepted_holds (refused n line) x = absurd (no_reason text j n line long w x.reason)
    accepted_holds (accepted counts) x =
        let e = job_unique text x.job j x.writes w in (
          ap accepted (x.is_counts ∙ ap counts_of e),
          x.lanes_left_lem ∙ ap (λ (k : Numbers). filled k.network.lanes lane_numbers lanes) e,
          x.closed_left ∙ ap (λ (k : Numbers). filled k.network.closed node_limit closed) e,
          x.records_left ∙ ap (λ (k : Numbers). filled_records k.moves records) e,
          x.order_left ∙ ap (λ (k : Numbers). filled k.order carrier_limit order) e,
        )

  pub accepted_exactly : (s : Said Job) → GivenJob text lanes closed records order l cs rs o s → (j : Numbers)
      → ((¬ LentShort lanes closed records order) × WrittenJob text j)
      ↔ ((s ≡ accepted (counts_of j)) × (job_as_read (counts_of j) l cs rs o ≡ j))
  accepted_exactly s x j = (there s x, λ h. back s x h.0 h.1)
    where
      there : (s : Said Job) → GivenJob text lanes closed records order l cs rs o s
          → (¬ LentShort lanes closed records order) × WrittenJob text j
          → (s ≡ accepted (counts_of j)) × (job_as_read (counts_of j) l cs rs o ≡ j)
      there (refused n line) x h = absurd (no_reason text j n line h.0 h.1 x.reason)
      there (accepted counts) x h =
          let e = job_unique text x.job j x.writes h.1 in
          let same = x.is_counts ∙ ap counts_of e in (
            ap accepted same,
            ap (λ (c : Job). job_as_read c l cs rs o) (sym same)
                ∙ read_back text lanes l closed cs records rs order o counts x
                ∙ e,
          )

      back : (s : Said Job) → GivenJob text lanes closed records order l cs rs o s → s ≡ accepted (counts_of j)
          → job_as_read (counts_of j) l cs rs o ≡ j → (¬ LentShort lanes closed records order) × WrittenJob text j
      back (refused n line) x e is = absurd (let z : ◌≡◌ {A = ℕ} 0 1 = cc in omega arith)
      back (accepted counts) x e is =
          let same : counts ≡ counts_of j = cc in
          let written = read_is_written text lanes l closed cs records rs order o counts x in
          (x.long, subst (WrittenJob text) (ap (λ (c : Job). job_as_read c l cs rs o) same ∙ is) written)

  module _ (l' cs' : List ℕ) (rs' : List Record) (o' : List ℕ) where
    pub reading_unique : (s s' : Said Job) → GivenJob text lanes closed records order l cs rs o s
        → GivenJob text lanes closed records order l' cs' rs' o' s'
        → (s ≡ s') × (l ≡ l') × (cs ≡ cs') × (rs ≡ rs') × (o ≡ o')
    reading_unique (accepted i) (accepted k) x y =
        let e = job_unique text x.job y.job x.writes y.writes in
        (ap accepted (x.is_counts ∙ ap counts_of e ∙ sym y.is_counts), (cc), (cc), (cc), (cc))
    reading_unique (accepted i) (refused n line) x y = absurd (accepted_refused i n line x y.reason)
    reading_unique (refused n line) (accepted k) x y =
        absurd (no_reason text y.job n line y.long y.writes x.reason)
    reading_unique (refused n line) (refused m at) x y =
        let e = reason_unique text n m line at x.reason y.reason in
        let number = e.0 in
        ((λ i. refused (e.0 i) (e.1 i)), (cc), (cc), (cc), (cc))
