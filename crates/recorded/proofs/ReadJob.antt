-- The job that an accepted reading leaves in the tables is the one that the text writes. Each table begins
-- with the job's numbers, and the counts say how many these are; the records made of moves have those moves,
-- and the dwell is that of the job. So what is cut out of the tables by the counts is the job that was read,
-- and the text is its written form; it has no fault of the listed checks, and planning it can give 8 only.
-- Assumes nothing.
--     read_back          the job in the tables is the job that was read
--     read_is_written    the text is the written form of the job in the tables
use mathlib.Core.Path.{◌≡◌, refl, sym, ◌∙◌, ap, subst}
use mathlib.Core.List.{List, [], ◌∷◌}
use Prim.Native.Nat.{ℕ, zero, suc, ◌*◌}
use native.Mathlib.Omega.{arith}
use lib.ListN.{length, take}
use lib.Seq.{take_at}
use Rattle.hall.specs.declared.Job.{Job}
use Rattle.hall.specs.Limits.{node_limit, carrier_limit, lane_numbers}
use Rattle.hall.specs.Floor.{network_of}
use Rattle.hall.specs.Job.{job_of, carriers}
use Rattle.hall.proofs.Left.{filled_front}
use Rattle.hall.proofs.Sound.{order_length}
use Rattle.records.specs.declared.Record.{Record}
use Rattle.records.specs.Table.{moves_of}
use Rattle.records.proofs.Lists.{two_more}
use Rattle.form.specs.Jobs.{WrittenJob}
use Rattle.form.proofs.WrittenJobs.{lanes_paired}
use Rattle.recorded.specs.Reading.{records_of, filled_records, JobAccepted, job_as_read}
use Rattle.recorded.proofs.ReadRecords.{records_of_moves}

-- ---- the records in front

moves_of_records : (ms : List ℕ) (k : ℕ) → length ms ≡ 2 * k → moves_of (records_of ms) ≡ ms
moves_of_records [] k e = refl
moves_of_records (s ∷ []) k e = absurd (let x : ⊥ = omega arith in x)
moves_of_records (s ∷ g ∷ ms) zero e = absurd (let x : ⊥ = omega arith in x)
moves_of_records (s ∷ g ∷ ms) (suc k) e =
    ap (λ (t : List ℕ). s ∷ g ∷ t) (moves_of_records ms k (omega (arith, two_more k)))

front_records : (ms : List ℕ) (k : ℕ) (rs : List Record) → length ms ≡ 2 * k
    → moves_of (take k (filled_records ms rs)) ≡ ms
unfolding filled_records
front_records ms k rs e = ap moves_of (take_at (records_of ms) _ k (records_of_moves ms k e)) ∙ moves_of_records ms k e

-- ---- the job in the tables

module _ (text lanes lanes' closed closed' : List ℕ) (records records' : List Record) (order order' : List ℕ)
    (counts : Job) (a : JobAccepted text lanes closed records order lanes' closed' records' order' counts) where
  pub read_back : job_as_read counts lanes' closed' records' order' ≡ a.job
  read_back =
      let j = a.job in
      let sound = a.writes.sound in
      let c = a.is_counts in
      let l = (λ i. take (2 * (c i).lanes) (a.lanes_left_lem i))
      ∙ filled_front j.network.lanes lane_numbers lanes _ (lanes_paired j sound) in
      let v = (λ i. take (c i).closed (a.closed_left i))
      ∙ filled_front j.network.closed node_limit closed _ refl in
      let m = (λ i. moves_of (take (c i).carriers (a.records_left i)))
      ∙ front_records j.moves (carriers j) records a.writes.paired in
      let o = (λ i. take (c i).carriers (a.order_left i))
      ∙ filled_front j.order carrier_limit order _ (order_length j sound) in
      λ i. job_of (network_of (c i).nodes (l i) (v i)) (m i) (o i) (c i).dwell

  pub read_is_written : WrittenJob text (job_as_read counts lanes' closed' records' order')
  read_is_written = subst (WrittenJob text) (sym read_back) a.writes
