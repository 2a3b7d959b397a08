-- What the answer of reading and the tables that it leaves say of the text: counts mean that the text is
-- the written form of the job whose numbers stand in front of the tables, without a fault of its listed
-- checks; a refusal is the text's. The tables that are lent are long enough, so 9 is not given. The lists
-- of a job are as long as its counts say, and so they are the first numbers of the filled tables (hall's
-- `filled_front`). Assumes nothing.
--     ReadBack          the text is the written form of the job whose numbers stand in front of the tables
--                       (reader's `numbers_read`), and its counts are within the limits
--     job_back          counts that reading answers are those of a job that was read
--     refusal_back      a refusal that reading answers is the text's
--     job_answers, refused_answers    so what is printed for them answers the text
use mathlib.Core.Path.{◌≡◌, refl, sym, ◌∙◌, ap, subst}
use mathlib.Core.Logic.{inl, inr}
use mathlib.Core.List.{List}
use Prim.Native.Nat.{ℕ, ◌*◌, ◌≤◌}
use native.Mathlib.Omega.{arith}
use lib.ListN.{length, take}
use Rattle.std.proofs.Common.{Result, Ok, Err}
use Rattle.hall.specs.declared.Job.{Job}
use Rattle.hall.specs.declared.Refusal.{Refusal}
use Rattle.hall.specs.Limits.{node_limit, lane_limit, carrier_limit, lane_numbers, move_numbers}
use Rattle.hall.specs.Floor.{network_of}
use Rattle.hall.specs.Job.{job_of}
use Rattle.hall.specs.Numbers.{number_of}
use Rattle.hall.specs.Left.{filled}
use Rattle.hall.proofs.Left.{filled_front}
use Rattle.hall.proofs.Sound.{carriers_limit, order_length}
use Rattle.form.specs.Texts.{Refused}
use Rattle.form.specs.JobText.{job_text}
use Rattle.form.specs.Jobs.{WrittenJob}
use Rattle.form.proofs.WrittenJobs.{lanes_paired, lanes_few, closed_few}
use Rattle.reader.specs.Reading.{said_read, counts_of, numbers_read, AnyShort, AcceptedAs, RefusedWith, ReadInto}
use Rattle.reader.proofs.Exactly.{by_form}
use Rattle.report.specs.Printing.{RefusedPrinting}
use Rattle.report.specs.Answer.{JobAnswer, AnswerText, Answering}

pub record ReadBack (text lanes closed moves order : List ℕ) (counts : Job) : Type 0 where
  pub writes : WrittenJob text (numbers_read counts lanes closed moves order)
  pub few_lanes : counts.lanes ≤ lane_limit
  pub few_closed : counts.closed ≤ node_limit
  pub few_carriers : counts.carriers ≤ carrier_limit

in_front : {l numbers : List ℕ} (n least : ℕ) (table : List ℕ) →
    l ≡ filled numbers least table → length numbers ≡ n → take n l ≡ numbers
in_front {l} {numbers} n least table e sized =
    ap (λ (x : List ℕ). take n x) e ∙ filled_front numbers least table n sized

module _ {text lanes closed moves order l s m o : List ℕ} where
  -- the numbers of an accepted text stand in front of the tables
  accepted_front : {counts : Job} (a : AcceptedAs text lanes closed moves order l s m o counts) →
      numbers_read counts l s m o ≡ a.job
  accepted_front {counts} a =
      let j = a.job in
      let w = a.writes in
      let is = a.is_counts in
      let nl : length j.network.lanes ≡ 2 * (counts_of j).lanes = lanes_paired j w.sound in
      let no : length j.order ≡ (counts_of j).carriers = order_length j w.sound in
      let el = in_front (2 * (counts_of j).lanes) lane_numbers lanes a.lanes_left_lem nl in
      let es = in_front (counts_of j).closed node_limit closed a.closed_left refl in
      let em = in_front (2 * (counts_of j).carriers) move_numbers moves a.moves_left w.paired in
      let eo = in_front (counts_of j).carriers carrier_limit order a.order_left no in
      ap (λ (c : Job). numbers_read c l s m o) is
      ∙ λ i. job_of (network_of j.network.nodes (el i) (es i)) (em i) (eo i) j.dwell

  accepted_back : {counts : Job} → AcceptedAs text lanes closed moves order l s m o counts → ReadBack text l s m o counts
  accepted_back {counts} a =
      let sound = a.writes.sound in
      let lane_count = ap (λ (c : Job). c.lanes) a.is_counts in
      let closed_count_lem = ap (λ (c : Job). c.closed) a.is_counts in
      let carrier_count = ap (λ (c : Job). c.carriers) a.is_counts in
      record {
        writes = subst (WrittenJob text) (sym (accepted_front a)) a.writes;
        few_lanes = omega (arith, lanes_few a.job sound, lane_count);
        few_closed = omega (arith, closed_few a.job sound, closed_count_lem);
        few_carriers = omega (arith, carriers_limit a.job sound, carrier_count);
      }

tables_long : (lanes closed moves order : List ℕ) →
    lane_numbers ≤ length lanes → node_limit ≤ length closed → move_numbers ≤ length moves →
    carrier_limit ≤ length order → ¬ AnyShort lanes closed moves order
tables_long lanes closed moves order a b c d (inl h) = omega arith
tables_long lanes closed moves order a b c d (inr (inl h)) = omega arith
tables_long lanes closed moves order a b c d (inr (inr (inl h))) = omega arith
tables_long lanes closed moves order a b c d (inr (inr (inr h))) = omega arith

module _ (text lanes closed moves order : List ℕ) where
  pub job_back : {r : Result Job Refusal} {counts : Job} {l s m o : List ℕ} → r ≡ Ok counts →
      ReadInto text lanes closed moves order l s m o (said_read r) → ReadBack text l s m o counts
  job_back is read = accepted_back (rw is at read)

  pub refusal_back : {r : Result Job Refusal} {given : Refusal} (l s m o : List ℕ) →
      lane_numbers ≤ length lanes → node_limit ≤ length closed → move_numbers ≤ length moves →
      carrier_limit ≤ length order → r ≡ Err given →
      ReadInto text lanes closed moves order l s m o (said_read r) →
      Refused job_text text (number_of given.fault) given.place
  refusal_back {r} {given} l s m o a b c d is read =
      let long = tables_long lanes closed moves order a b c d in
      let refused : RefusedWith text lanes closed moves order l s m o (number_of given.fault) given.place =
      rw is at read in
      by_form text (number_of given.fault) given.place long refused.reason

-- ---- the answers

pub job_answers : {text lanes closed moves order : List ℕ} {counts : Job} {out out' : List ℕ} {r : ℕ} →
    ReadBack text lanes closed moves order counts →
    Answering (JobAnswer (numbers_read counts lanes closed moves order)) out out' r →
    Answering (AnswerText text) out out' r
job_answers read (Answering.whole long text prints) =
    Answering.whole long (AnswerText.accepted read.writes text) prints
job_answers read (Answering.nothing short u) = Answering.nothing short u

pub refused_answers : {text : List ℕ} {number line : ℕ} {out out' : List ℕ} {r : ℕ} →
    Refused job_text text number line → RefusedPrinting number line out out' r →
    Answering (AnswerText text) out out' r
refused_answers refusal (RefusedPrinting.whole long prints) =
    Answering.whole long (AnswerText.refused refusal refl) prints
refused_answers refusal (RefusedPrinting.nothing short u) = Answering.nothing short u
