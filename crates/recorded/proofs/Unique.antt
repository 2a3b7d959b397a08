-- One outcome fits each promise of a question with records. A text writes one job at most or has one reason
-- to be refused, never both (ReadExactly.antt), and which it is decides what is left. An accepted job has one
-- plan, so one cost, one tick and one distance for each record, and one table, since all other places are
-- decided by what came in; a refusal is the first fault, and decides what is left. A job is not both accepted
-- and refused. What is left of a house path is one, whatever question it answers (path's `left_unique`).
-- Lists that are only read are as they came. Assumes nothing.
--     read_job_unique, plan_unique, write_unique, house_unique, judge_unique    one theorem for each public
--                                                                               function of crate `jobs`
use mathlib.Core.Path.{◌≡◌, sym, ◌∙◌, ap}
use mathlib.Core.Bool.{true}
use mathlib.Core.List.{List}
use Prim.Native.Nat.{ℕ, ◌≤◌, ◌<◌}
use native.Mathlib.Omega.{arith}
use lib.ListN.{length}
use lib.Seq.{ext_get_or}
use Rattle.std.proofs.Common.{Result, Ok, Err}
use Rattle.hall.specs.declared.Job.{Job}
use Rattle.hall.specs.declared.Refusal.{Refusal}
use Rattle.hall.specs.Limits.{node_limit, table_length}
use Rattle.hall.specs.Numbers.{number_of}
use Rattle.hall.specs.Floor.{Network}
use Rattle.hall.specs.Job.{Numbers, carriers, start, goal}
use Rattle.hall.specs.Stages.{None}
use Rattle.hall.specs.Questions.{checks_question, house_of_job, list_of_job}
use Rattle.hall.specs.Left.{left}
use Rattle.hall.specs.Plan.{tables_in}
use Rattle.hall.proofs.Numbers.{number_one_fault}
use Rattle.hall.proofs.Stages.{first_unique, none_excludes, judged_unique}
use Rattle.hall.proofs.Places.{none_asked}
use Rattle.hall.proofs.Sound.{checks_of_none}
use Rattle.hall.proofs.PlanLaws as plans
use Rattle.hall.proofs.PlanLaws.{SamePlan}
use Rattle.records.specs.declared.Record.{Record}
use Rattle.records.specs.Table.{blank, record_at}
use Rattle.records.proofs.Laws.{moves_count}
use Rattle.tables.specs.Filling.{TableFilled}
use Rattle.tables.proofs.Unique.{filling_unique}
use Rattle.reader.specs.Reading.{said_read}
use Rattle.reader.proofs.Unique.{said_read_one}
use Rattle.path.specs.Paths.{Unfit}
use Rattle.path.proofs.Unique.{left_unique}
use Rattle.planner.specs.Planning.{said_planned}
use Rattle.planner.proofs.Outcome.{filling_served}
use Rattle.writer.proofs.Unique.{writing_unique}
use Rattle.recorded.specs.Job.{record_job}
use Rattle.recorded.specs.Reading.{ReadLeft}
use Rattle.recorded.specs.Planning.{record_question, tick_of, RecordsPlanned, RecordsRefused, GivenRecords}
use Rattle.recorded.specs.Planning.{RecordPlanning}
use Rattle.recorded.specs.Asking.{RecordsKept, HouseOfRecords, ListOfRecords}
use Rattle.recorded.specs.Writing.{RecordWriting}
use Rattle.recorded.proofs.ReadExactly.{reading_unique}

-- ---- reading

module _ (text lanes closed : List ℕ) (records : List Record) (order : List ℕ) (r s : Result Job Refusal)
    (t u l m cs ds : List ℕ) (rs qs : List Record) (o p : List ℕ) where
  pub read_job_unique : ReadLeft text t lanes l closed cs records rs order o r
      → ReadLeft text u lanes m closed ds records qs order p s
      → (r ≡ s) × (t ≡ u) × (l ≡ m) × (cs ≡ ds) × (rs ≡ qs) × (o ≡ p)
  read_job_unique a b =
      let e =
      reading_unique text lanes closed records order l cs rs o m ds qs p (said_read r) (said_read s) a.given b.given
      in
      (said_read_one r s e.0, a.text_kept ∙ sym b.text_kept, e.1, e.2, e.3, e.4)

-- ---- planning

same_record : {x y : Record} → x.start ≡ y.start → x.goal ≡ y.goal → x.distance ≡ y.distance → x.tick ≡ y.tick → x ≡ y
same_record s g d t = λ i. record { start = s i; goal = g i; distance = d i; tick = t i }

-- a job that is planned has no fault of the listed checks
pub planned_sound : (j : Numbers) (table : List ℕ) → None (record_question j table) → None (checks_question j)
planned_sound j table none = checks_of_none j (none_asked none).1

module _ (N : Network) (records : List Record) (order : List ℕ) (dwell : ℕ) (table : List ℕ) where
  abbrev j : Numbers
  j = record_job N records order dwell

  room : (a b : ℕ) → ¬ (a < b) → b ≤ a
  room a b h = omega arith

  filled : {rs : List Record} {t : List ℕ} {c : ℕ} → RecordsPlanned j records rs table t c → TableFilled N j.moves table t
  filled a = record {
    served =
        filling_served j (planned_sound j table a.no_fault)
        (room (length table) table_length (λ h. (none_asked a.no_fault).0 h));
    true_distances = a.plan.true_distances;
    table_left = a.table_left;
  }

  module _ (rs qs : List Record) (t u : List ℕ) (c d : ℕ) (a : RecordsPlanned j records rs table t c)
      (b : RecordsPlanned j records qs table u d) where
    same_plan : SamePlan (carriers j) (tables_in t) (tick_of rs) c (tables_in u) (tick_of qs) d
    same_plan =
        plans.plan_unique j (planned_sound j table a.no_fault) (tables_in t) (tables_in u) (tick_of rs) (tick_of qs) c d
        a.plan b.plan

    records_same : (i : ℕ) → i < length records → record_at rs i ≡ record_at qs i
    records_same i h =
        let k : i < carriers j = rw (moves_count records) h in
        let v = a.records_left in
        let w = b.records_left in
        same_record (v.starts i h ∙ sym (w.starts i h)) (v.goals i h ∙ sym (w.goals i h))
        (v.distances i h ∙ same_plan.tables.sg i i k k ∙ sym (w.distances i h)) (same_plan.ticks i k)

    planned_unique : (c ≡ d) × (rs ≡ qs) × (t ≡ u)
    planned_unique = (
      same_plan.costs,
      ext_get_or blank rs qs (a.records_left.as_many ∙ sym b.records_left.as_many)
          (λ i h. records_same i (rw a.records_left.as_many at h)),
      (filling_unique N j.moves table true true t u (filled a) (filled b)).1,
    )

  refused_unique : (rs qs : List Record) (t u : List ℕ) (n p m q : ℕ) →
      RecordsRefused j records rs table t n p → RecordsRefused j records qs table u m q →
      ((n ≡ m) × (p ≡ q)) × (rs ≡ qs) × (t ≡ u)
  refused_unique rs qs t u n p m q a b =
      let e = first_unique a.first b.first in (
        e,
        a.records_kept ∙ sym b.records_kept,
        a.table_left ∙ ap (λ (k : ℕ). left k table_length table) e.0 ∙ sym b.table_left,
      )

  given_unique : (rs qs : List Record) (t u : List ℕ) (r s : Result ℕ Refusal) →
      GivenRecords j records rs table t (said_planned r) → GivenRecords j records qs table u (said_planned s) →
      (r ≡ s) × (rs ≡ qs) × (t ≡ u)
  given_unique rs qs t u (Ok c) (Ok d) a b =
      let e = planned_unique rs qs t u c d a b in (ap Ok e.0, e.1, e.2)
  given_unique rs qs t u (Ok c) (Err s) a b = absurd (none_excludes b.first a.no_fault)
  given_unique rs qs t u (Err r) (Ok d) a b = absurd (none_excludes a.first b.no_fault)
  given_unique rs qs t u (Err r) (Err s) a b =
      let e = refused_unique rs qs t u (number_of r.fault) r.place (number_of s.fault) s.place a b in
      let same = number_one_fault r.fault s.fault e.0.0 in
      (ap Err (λ i. record { fault = same i; place = e.0.1 i }), e.1, e.2)

  pub plan_unique : (r s : Result ℕ Refusal) (M O : Network) (rs qs : List Record) (o p t u : List ℕ) →
      RecordPlanning N M records rs order o dwell table t r →
      RecordPlanning N O records qs order p dwell table u s →
      (r ≡ s) × (M ≡ O) × (rs ≡ qs) × (o ≡ p) × (t ≡ u)
  plan_unique r s M O rs qs o p t u a b =
      let e = given_unique rs qs t u r s a.given b.given in
      (e.0, a.network_kept ∙ sym b.network_kept, e.1, a.order_kept ∙ sym b.order_kept, e.2)

-- ---- what is only read is as it came

kept_same : {N M O : Network} {records rs qs : List Record} {order o p : List ℕ} →
    RecordsKept N M records rs order o → RecordsKept N O records qs order p →
    (M ≡ O) × (rs ≡ qs) × (o ≡ p)
kept_same a b = (
  a.network_kept ∙ sym b.network_kept,
  a.records_kept ∙ sym b.records_kept,
  a.order_kept ∙ sym b.order_kept,
)

-- ---- writing

module _ (N : Network) (records : List Record) (order : List ℕ) (dwell : ℕ) (M O : Network)
    (rs qs : List Record) (o p : List ℕ) where
  pub write_unique : (out t u : List ℕ) (r s : Result ℕ Refusal) →
      RecordWriting N M records rs order o dwell out t r →
      RecordWriting N O records qs order p dwell out u s →
      ((r ≡ s) × (t ≡ u)) × ((M ≡ O) × (rs ≡ qs) × (o ≡ p))
  write_unique out t u r s a b =
      let j = record_job N records order dwell in
      (writing_unique j out r s t u a.given b.given, kept_same a.kept b.kept)

-- ---- one carrier's path

module _ (N : Network) (records : List Record) (order : List ℕ) (dwell c : ℕ) (M O : Network)
    (rs qs : List Record) (o p : List ℕ) where
  pub house_unique : (path t u : List ℕ) (r s : Result ℕ Refusal) →
      HouseOfRecords N M records rs order o dwell c path t r →
      HouseOfRecords N O records qs order p dwell c path u s →
      ((r ≡ s) × (t ≡ u)) × ((M ≡ O) × (rs ≡ qs) × (o ≡ p))
  house_unique path t u r s a b =
      let j = record_job N records order dwell in (
        left_unique (house_of_job (length path < node_limit) j c) N (start j c) (goal j c) path t u r s a.given b.given,
        kept_same a.kept b.kept,
      )

  pub judge_unique : (list t u : List ℕ) (r s : Result Unit Refusal) →
      ListOfRecords N M records rs order o dwell c list t r →
      ListOfRecords N O records qs order p dwell c list u s →
      ((r ≡ s) × (t ≡ u)) × ((M ≡ O) × (rs ≡ qs) × (o ≡ p))
  judge_unique list t u r s a b =
      let j = record_job N records order dwell in (
        (
          judged_unique (list_of_job j c (Unfit N (start j c) (goal j c) list)) r s a.given b.given,
          a.list_kept ∙ sym b.list_kept,
        ),
        kept_same a.kept b.kept,
      )
