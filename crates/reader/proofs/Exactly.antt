-- The promise of `read_numbers` in both directions: whatever fits it is refused with a number at a line
-- exactly when there is that reason, and accepted exactly when the text writes a job, as that job. And the
-- first 47,143 bytes of a text have the same answer and leave the same tables (rule 7.7), since no accepted
-- text is that long. Assumes nothing.
--     refused_exactly     refused with this number at this line, exactly when
--     refused_by_form     with long enough tables: exactly when the form refuses the text so
--     accepted_exactly    accepted, exactly when tables are long enough and the text writes a job
--     accepted_as         then with the job's counts and dwell, and the tables are filled with its numbers
--     first_bytes         what fits the first 47,143 bytes of a text fits the text, and the other way round
--     first_bytes_read    they have the same answer and leave the same tables
use mathlib.Core.Path.{◌≡◌, ◌∙◌, ap}
use mathlib.Core.Logic.{◌↔◌}
use mathlib.Core.List.{List}
use Prim.Native.Nat.{ℕ}
use native.Mathlib.Omega.{arith}
use lib.ListN.{take}
use Rattle.std.specs.Prelude.{Result}
use Rattle.hall.specs.declared.Refusal.{Refusal}
use Rattle.hall.specs.declared.Job.{Job}
use Rattle.hall.specs.Limits.{node_limit, carrier_limit, lane_numbers, move_numbers}
use Rattle.hall.specs.Job.{Numbers}
use Rattle.hall.specs.Said.{Said, accepted, refused}
use Rattle.hall.specs.Left.{filled}
use Rattle.form.specs.Texts.{Refused}
use Rattle.form.specs.JobText.{job_text}
use Rattle.form.specs.Jobs.{WrittenJob}
use Rattle.form.proofs.JobTexts.{job_unique, first_47143}
use Rattle.reader.specs.Reading.{said_read, counts_of, AnyShort, ReadInto}
use Rattle.reader.specs.Reading.{Reason, short, faulty}
use Rattle.reader.proofs.Unique.{reason_unique, no_reason, accepted_refused, read_unique}

-- with long enough tables a reason is the form's
pub by_form : {Short : Type 0} (text : List ℕ) (n line : ℕ) → ¬ Short → Reason Short text n line
    → Refused job_text text n line
by_form text n line long (short h a b) = absurd (long h)
by_form text n line long (faulty h r) = r

-- the first bytes of a text give the same reasons
pub first_bytes_reason : {Short : Type 0} (text : List ℕ) (n line : ℕ)
    → Reason Short (take 47143 text) n line ↔ Reason Short text n line
first_bytes_reason {Short} text n line = (onward, back)
  where
    onward : Reason Short (take 47143 text) n line → Reason Short text n line
    onward (short h a b) = short h a b
    onward (faulty h r) = faulty h ((first_47143 text (refused n line)).0 r)

    back : Reason Short text n line → Reason Short (take 47143 text) n line
    back (short h a b) = short h a b
    back (faulty h r) = faulty h ((first_47143 text (refused n line)).1 r)

module _ (text lanes closed moves order l c m o : List ℕ) where
  pub refused_exactly : (s : Said Job) → ReadInto text lanes closed moves order l c m o s → (n line : ℕ)
      → (s ≡ refused n line) ↔ Reason (AnyShort lanes closed moves order) text n line
  refused_exactly (accepted counts) x n line = (
    λ e. absurd (let z : ◌≡◌ {A = ℕ} 0 1 = cc in omega arith),
    λ why. absurd (accepted_refused text lanes closed moves order l c m o counts n line x why),
  )
  refused_exactly (refused k at) x n line = (
    λ e.
        let number : k ≡ n = cc in
        let place : at ≡ line = cc in
        rw (number, place) at x.reason,
    λ why.
        let e = reason_unique text k n at line x.reason why in
        λ i. refused (e.0 i) (e.1 i),
  )

  module _ (long : ¬ AnyShort lanes closed moves order) where
    pub refused_by_form : (s : Said Job) → ReadInto text lanes closed moves order l c m o s → (n line : ℕ)
        → (s ≡ refused n line) ↔ Refused job_text text n line
    refused_by_form s x n line =
        let iff = refused_exactly s x n line in
        (λ e. by_form text n line long (iff.0 e), λ r. iff.1 (faulty long r))

    pub accepted_as : (s : Said Job) → ReadInto text lanes closed moves order l c m o s
        → (j : Numbers) → WrittenJob text j
        → (s ≡ accepted (counts_of j))
        × (l ≡ filled j.network.lanes lane_numbers lanes)
        × (c ≡ filled j.network.closed node_limit closed)
        × (m ≡ filled j.moves move_numbers moves)
        × (o ≡ filled j.order carrier_limit order)
    accepted_as (refused n line) x j w = absurd (no_reason text j n line long w x.reason)
    accepted_as (accepted counts) x j w =
        let e = job_unique text x.job j x.writes w in (
          ap accepted (x.is_counts ∙ ap counts_of e),
          x.lanes_left_lem ∙ ap (λ (k : Numbers). filled k.network.lanes lane_numbers lanes) e,
          x.closed_left ∙ ap (λ (k : Numbers). filled k.network.closed node_limit closed) e,
          x.moves_left ∙ ap (λ (k : Numbers). filled k.moves move_numbers moves) e,
          x.order_left ∙ ap (λ (k : Numbers). filled k.order carrier_limit order) e,
        )

  pub accepted_exactly : (s : Said Job) → ReadInto text lanes closed moves order l c m o s
      → ((counts : Job) × (s ≡ accepted counts))
      ↔ ((¬ AnyShort lanes closed moves order) × ((j : Numbers) × WrittenJob text j))
  accepted_exactly s x = (
    λ a. written s a.0 a.1 x,
    λ w. (counts_of w.1.0, (accepted_as w.0 s x w.1.0 w.1.1).0),
  )
    where
      written : (s : Said Job) (counts : Job) → s ≡ accepted counts → ReadInto text lanes closed moves order l c m o s
          → (¬ AnyShort lanes closed moves order) × ((j : Numbers) × WrittenJob text j)
      written (accepted k) counts e x = (x.long, (x.job, x.writes))
      written (refused n line) counts e x = absurd (let z : ◌≡◌ {A = ℕ} 0 1 = cc in omega arith)

-- ---- long texts

module _ (text lanes closed moves order l c m o : List ℕ) where
  pub first_bytes : (s : Said Job)
      → ReadInto (take 47143 text) lanes closed moves order l c m o s ↔ ReadInto text lanes closed moves order l c m o s
  first_bytes (accepted counts) = (
    λ x. record {
      long = x.long;
      job = x.job;
      writes = (first_47143 text (accepted x.job)).0 x.writes;
      is_counts = x.is_counts;
      lanes_left_lem = x.lanes_left_lem;
      closed_left = x.closed_left;
      moves_left = x.moves_left;
      order_left = x.order_left;
    },
    λ x. record {
      long = x.long;
      job = x.job;
      writes = (first_47143 text (accepted x.job)).1 x.writes;
      is_counts = x.is_counts;
      lanes_left_lem = x.lanes_left_lem;
      closed_left = x.closed_left;
      moves_left = x.moves_left;
      order_left = x.order_left;
    },
  )
  first_bytes (refused n line) = (
    λ x. record {
      reason = (first_bytes_reason text n line).0 x.reason;
      lanes_left_lem = x.lanes_left_lem;
      closed_left = x.closed_left;
      moves_left = x.moves_left;
      order_left = x.order_left;
    },
    λ x. record {
      reason = (first_bytes_reason text n line).1 x.reason;
      lanes_left_lem = x.lanes_left_lem;
      closed_left = x.closed_left;
      moves_left = x.moves_left;
      order_left = x.order_left;
    },
  )

  pub first_bytes_read : (r r' : Result Job Refusal) (l' c' m' o' : List ℕ)
      → ReadInto (take 47143 text) lanes closed moves order l c m o (said_read r)
      → ReadInto text lanes closed moves order l' c' m' o' (said_read r')
      → (r ≡ r') × (l ≡ l') × (c ≡ c') × (m ≡ m') × (o ≡ o')
  first_bytes_read r r' l' c' m' o' x y =
      read_unique text lanes closed moves order l l' c c' m m' o o' r r' ((first_bytes (said_read r)).0 x) y
