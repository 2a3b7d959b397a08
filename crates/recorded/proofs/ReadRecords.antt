-- Reading into records is reading into numbers. The starts and goals that a text gives stand by turns in
-- front of 128 numbers, with zeros behind; the records made of these are those of the moves, and blank ones
-- behind: by induction over the moves, two at a time. 9 is given by the same lengths, since the local list of
-- 128 numbers is long enough; then no record is written. An accepted text has a whole number of moves, 64 at
-- most. Assumes nothing.
--     placed_filled    records made of moves with zeros behind
--     all_placed       how many records are written where no table is too short
--     records_read     the promise of `read_job`, from what is read beside the records and from the records
--                      that are written
use mathlib.Core.Path.{◌≡◌, refl, sym, ◌∙◌, ap, subst}
use mathlib.Core.Logic.{inl, inr}
use mathlib.Core.List.{List, [], ◌∷◌, ◌++◌, append-nil}
use Prim.Native.Nat.{ℕ, zero, suc, ◌+◌, ◌*◌, ◌-◌, ◌≤◌}
use native.Mathlib.Nat.{not-suc-le-zero}
use native.Mathlib.Omega.{arith}
use borrow.Author.Tests.{ne_eqb}
use lib.ListN.{length, drop, replicate, length-replicate, drop_of_length-le}
use Rattle.std.proofs.Common.{Result}
use Rattle.hall.specs.declared.Job.{Job}
use Rattle.hall.specs.declared.Refusal.{Refusal}
use Rattle.hall.specs.Job.{carriers}
use Rattle.hall.specs.Said.{Said, accepted, refused}
use Rattle.hall.specs.Left.{filled}
use Rattle.hall.proofs.Left.{NotNine, left_by_other, filled_none}
use Rattle.hall.proofs.Sound.{carriers_limit}
use Rattle.records.specs.declared.Record.{Record}
use Rattle.records.specs.Table.{blank, fresh, placed}
use Rattle.records.proofs.Lists.{two_more}
use Rattle.form.proofs.JobTexts.{refused_with}
use Rattle.reader.specs.Reading.{said_read, AnyShort, Reason, short, faulty, AcceptedAs, RefusedWith}
use Rattle.recorded.specs.Reading.{RecordsShort, LentShort, records_of, filled_records, left_records}
use Rattle.recorded.specs.Reading.{JobAccepted, JobRefused, GivenJob, ReadLeft}
use Rattle.recorded.specs.Loading.{Beside, few, enough, Placing}

-- ---- records made of moves

zeros_placed : (n : ℕ) (rs : List Record) → n ≤ length rs → placed n rs (replicate (2 * n) 0) ≡ replicate n blank ++ drop n rs
zeros_placed zero rs h = refl
zeros_placed (suc n) [] h = absurd (not-suc-le-zero h)
zeros_placed (suc n) (r ∷ rs) h = rw (two_more n) (ap (λ (t : List Record). blank ∷ t) (zeros_placed n rs (omega arith)))

-- z zeros fill up the numbers of n records, b blank records fill up the records
placed_filled : (ms : List ℕ) (n : ℕ) (rs : List Record) (z b : ℕ) → length ms ≡ 2 * length (records_of ms) → length ms + z ≡ 2 * n → length (records_of ms) + b ≡ n
    → n ≤ length rs → placed n rs (ms ++ replicate z 0) ≡ records_of ms ++ (replicate b blank ++ drop n rs)
placed_filled [] n rs z b two all fill h = let e : z ≡ 2 * n = omega arith in let f : b ≡ n = omega arith in rw (e, f) (zeros_placed n rs h)
placed_filled (s ∷ []) n rs z b two all fill h = absurd (let x : ⊥ = omega arith in x)
placed_filled (s ∷ g ∷ ms) zero rs z b two all fill h = absurd (let x : ⊥ = omega arith in x)
placed_filled (s ∷ g ∷ ms) (suc n) [] z b two all fill h = absurd (not-suc-le-zero h)
placed_filled (s ∷ g ∷ ms) (suc n) (r ∷ rs) z b two all fill h =
    ap (λ (t : List Record). fresh s g ∷ t) (placed_filled ms n rs z b (omega (arith, two_more (length (records_of ms)))) (omega (arith, two_more n)) (omega arith) (omega arith))

-- as many records as moves
pub records_of_moves : (ms : List ℕ) (k : ℕ) → length ms ≡ 2 * k → length (records_of ms) ≡ k
records_of_moves [] k e = omega arith
records_of_moves (s ∷ []) k e = absurd (let x : ⊥ = omega arith in x)
records_of_moves (s ∷ g ∷ ms) zero e = absurd (let x : ⊥ = omega arith in x)
records_of_moves (s ∷ g ∷ ms) (suc k) e = ap suc (records_of_moves ms k (omega (arith, two_more k)))

-- the local list of 128 zeros, with moves in front
moves_filled : (ms : List ℕ) → filled ms 128 (replicate 128 0) ≡ ms ++ replicate (128 - length ms) 0
unfolding filled
moves_filled ms = rw (drop_of_length-le {A = ℕ} (replicate 128 0) {i = 128} (omega (arith, length-replicate {A = ℕ} 128 0)), append-nil {A = ℕ} (replicate (128 - length ms) 0))

records_filled : (ms : List ℕ) (k : ℕ) (rs : List Record) → length ms ≡ 2 * k → k ≤ 64 → 64 ≤ length rs → placed 64 rs (filled ms 128 (replicate 128 0)) ≡ filled_records ms rs
unfolding filled_records
records_filled ms k rs two limit h =
    let m = records_of_moves ms k two in
    rw (moves_filled ms) (placed_filled ms 64 rs (128 - length ms) (64 - length (records_of ms)) (omega arith) (omega arith) (omega arith) h)

-- ---- 9

abbrev zeros : List ℕ
zeros = replicate 128 0

pub all_placed : {lanes closed records order : ℕ} → 8192 ≤ lanes → 1024 ≤ closed → 64 ≤ records → 64 ≤ order
    → Placing lanes closed records order 64
all_placed {lanes} {closed} {records} {order} a v b c = record { none = λ s. absurd (never s); all = λ n. refl }
  where
    never : ¬ RecordsShort lanes closed records order
    never (inl h) = omega arith
    never (inr (inl h)) = omega arith
    never (inr (inr (inl h))) = omega arith
    never (inr (inr (inr h))) = omega arith

module _ (lanes closed : List ℕ) (records : List Record) (order : List ℕ) (h : 64 ≤ length records) where
  there : AnyShort lanes closed zeros order → LentShort lanes closed records order
  there (inl l) = inl l
  there (inr (inl v)) = inr (inl v)
  there (inr (inr (inl m))) = absurd (let x : ⊥ = omega (arith, length-replicate {A = ℕ} 128 0) in x)
  there (inr (inr (inr o))) = inr (inr (inr o))

  back : LentShort lanes closed records order → AnyShort lanes closed zeros order
  back (inl l) = inl l
  back (inr (inl v)) = inr (inl v)
  back (inr (inr (inl r))) = absurd (let x : ⊥ = omega arith in x)
  back (inr (inr (inr o))) = inr (inr (inr o))

-- ---- the answer with the records

module _ (text lanes closed : List ℕ) (records : List Record) (order lanes' closed' moves' order' : List ℕ)
    (records' : List Record) (count : ℕ)
    (placing : Placing (length lanes) (length closed) (length records) (length order) count)
    (stored : records' ≡ placed count records moves') where
  -- none is written, or all 64
  none_written : LentShort lanes closed records order → records' ≡ records
  none_written s = stored ∙ ap (λ (n : ℕ). placed n records moves') (placing.none s)

  all_written : ¬ LentShort lanes closed records order → (m : List ℕ) → moves' ≡ m → records' ≡ placed 64 records m
  all_written n m e =
      stored ∙ ap (λ (k : ℕ). placed k records moves') (placing.all n) ∙ ap (λ (x : List ℕ). placed 64 records x) e

  read_accepted : (counts : Job) → 64 ≤ length records
      → AcceptedAs text lanes closed zeros order lanes' closed' moves' order' counts
      → JobAccepted text lanes closed records order lanes' closed' records' order' counts
  read_accepted counts h x =
      let long : ¬ LentShort lanes closed records order = λ s. x.long (back lanes closed records order h s) in
      let j = x.job in
      let limit = carriers_limit j x.writes.sound in
      record {
        long = long;
        job = j;
        writes = x.writes;
        is_counts = x.is_counts;
        lanes_left_lem = x.lanes_left_lem;
        closed_left = x.closed_left;
        records_left = all_written long _ x.moves_left
            ∙ records_filled j.moves (carriers j) records x.writes.paired limit h;
        order_left = x.order_left;
      }

  read_refused : (n line : ℕ) → 64 ≤ length records
      → RefusedWith text lanes closed zeros order lanes' closed' moves' order' n line
      → JobRefused text lanes closed records order lanes' closed' records' order' n line
  read_refused n line h x = record {
    reason = reason x.reason;
    lanes_left_lem = x.lanes_left_lem;
    closed_left = x.closed_left;
    records_left = records_left x.reason;
    order_left = x.order_left;
  }
    where
      reason : Reason (AnyShort lanes closed zeros order) text n line → Reason (LentShort lanes closed records order) text n line
      reason (short s a b) = short (there lanes closed records order h s) a b
      reason (faulty k r) = faulty (λ s. k (back lanes closed records order h s)) r

      records_left : Reason (AnyShort lanes closed zeros order) text n line → records' ≡ left_records n records
      records_left (short s a b) = none_written (there lanes closed records order h s) ∙ ap (λ (m : ℕ). left_records m records) (sym a)
      records_left (faulty k r) =
          let other : NotNine n = (refused_with text n line r).4 in
          let blank = filled_none 128 zeros (omega (arith, length-replicate {A = ℕ} 128 0)) in
          rw (ne_eqb n 9 other)
          (all_written (λ s. k (back lanes closed records order h s)) _ (x.moves_left ∙ left_by_other n 128 zeros other ∙ sym blank)
          ∙ records_filled [] 0 records refl (omega arith) h)

  given : (s : Said Job) → Beside text lanes closed (length records) zeros order lanes' closed' moves' order' s
      → GivenJob text lanes closed records order lanes' closed' records' order' s
  given (accepted counts) (enough _ h x) = read_accepted counts h x
  given (refused n line) (enough _ h x) = read_refused n line h x
  given s (few _ h e l v m o) =
      subst (GivenJob text lanes closed records order lanes' closed' records' order') (sym e) (record {
        reason = short (inr (inr (inl h))) refl refl;
        lanes_left_lem = l;
        closed_left = v;
        records_left = none_written (inr (inr (inl h)));
        order_left = o;
      })

  pub records_read : (r : Result Job Refusal) → Beside text lanes closed (length records) zeros order lanes' closed' moves' order' (said_read r)
      → ReadLeft text text lanes lanes' closed closed' records records' order order' r
  records_read r x = record { given = given (said_read r) x; text_kept = refl }
