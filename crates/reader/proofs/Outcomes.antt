-- The answers of reading a whole text fit its promise: a table is too short; or the text was read and is
-- accepted; or it is refused, and the tables are zeroed. Assumes nothing.
--     long_enough      no table is too short
--     read_short, read_accepted, read_refused    the three answers
use mathlib.Core.Path.{◌≡◌, refl, sym, ◌∙◌}
use mathlib.Core.Logic.{inl, inr}
use mathlib.Core.List.{List}
use Prim.Native.Nat.{ℕ, ◌≤◌, ◌<◌}
use native.Mathlib.Omega.{arith}
use lib.ListN.{length, drop}
use Rattle.std.specs.Prelude.{Result, Ok, Err}
use Rattle.hall.specs.declared.Fault.TheVariants.{ShortTable}
use Rattle.hall.specs.declared.Job.{Job}
use Rattle.hall.specs.declared.Refusal.{Refusal}
use Rattle.hall.specs.Limits.{node_limit, carrier_limit, lane_numbers, move_numbers}
use Rattle.hall.specs.Numbers.{number_of}
use Rattle.hall.specs.Said.{refused}
use Rattle.hall.specs.Left.{zeroed, left}
use Rattle.hall.proofs.Left.{left_by_other}
use Rattle.form.proofs.JobTexts.{refused_with}
use Rattle.reader.specs.Entries.{RefusedBy}
use Rattle.reader.specs.Reading.{said_read, AnyShort, short, faulty, ReadInto}
use Rattle.reader.specs.Text.{Long, TextRead}
use Rattle.reader.proofs.Left.{zeroed_again}

pub long_enough : (lanes closed moves order : List ℕ) → ¬ AnyShort lanes closed moves order
    → Long lanes closed moves order
long_enough lanes closed moves order h =
    let l : ¬ (length lanes < lane_numbers) = λ x. h (inl x) in
    let c : ¬ (length closed < node_limit) = λ x. h (inr (inl x)) in
    let m : ¬ (length moves < move_numbers) = λ x. h (inr (inr (inl x))) in
    let o : ¬ (length order < carrier_limit) = λ x. h (inr (inr (inr x))) in
    record {
      lanes_long = omega arith;
      closed_long = omega arith;
      moves_long = omega arith;
      order_long = omega arith;
    }

module _ (text lanes closed moves order : List ℕ) where
  pub read_short : AnyShort lanes closed moves order
      → ReadInto text lanes closed moves order lanes closed moves order (refused (number_of ShortTable) 0)
  read_short h = record {
    reason = short h refl refl;
    lanes_left_lem = refl;
    closed_left = refl;
    moves_left = refl;
    order_left = refl;
  }

  module _ (lanes' closed' moves' order' : List ℕ) (answer : Result Job Refusal)
      (x : TextRead text lanes closed moves order lanes' closed' moves' order' answer) where
    pub read_accepted : (counts : Job) → answer ≡ Ok counts
        → ReadInto text lanes closed moves order lanes' closed' moves' order' (said_read answer)
    read_accepted counts e = rw e (rw e at x.answer)

    -- what zeroing leaves of a table that was not touched beyond its least length
    left_zeroed : (r : Refusal) → RefusedBy text r → (least : ℕ) (before after last : List ℕ)
        → least ≤ length before → length after ≡ length before → drop least after ≡ drop least before
        → last ≡ zeroed least after
        → last ≡ left (number_of r.fault) least before
    left_zeroed r f least before after last long same beyond is =
        is ∙ zeroed_again least before long after same beyond
        ∙ sym (left_by_other (number_of r.fault) least before
        (refused_with text (number_of r.fault) r.place f).4)

    pub read_refused : (r : Refusal) → answer ≡ Err r → ¬ AnyShort lanes closed moves order
        → length lanes' ≡ length lanes → length closed' ≡ length closed
        → length moves' ≡ length moves → length order' ≡ length order
        → (l c m o : List ℕ) → l ≡ zeroed lane_numbers lanes' → c ≡ zeroed node_limit closed'
        → m ≡ zeroed move_numbers moves' → o ≡ zeroed carrier_limit order'
        → ReadInto text lanes closed moves order l c m o (said_read answer)
    read_refused r e enough el ec em eo l c m o zl zc zm zo =
        let f : RefusedBy text r = rw e at x.answer in
        let long = long_enough lanes closed moves order enough in
        rw e (record {
          reason = faulty enough f;
          lanes_left_lem = left_zeroed r f lane_numbers lanes lanes' l long.lanes_long el x.beyond_lanes zl;
          closed_left =
              left_zeroed r f node_limit closed closed' c long.closed_long ec x.beyond_closed zc;
          moves_left = left_zeroed r f move_numbers moves moves' m long.moves_long em x.beyond_moves zm;
          order_left = left_zeroed r f carrier_limit order order' o long.order_long eo x.beyond_order zo;
        })
