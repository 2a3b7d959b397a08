-- Carriers that wait over the chute (rules 1.9, 3.11, 4.12, 5.6, 7.16, 8.2 and 12.1 to 12.3), as theorems
-- that start from the promises as these stand in the source. The demands of Demands.antt and Program.antt
-- speak of the job's dwell as they stand: carriers that wait are on the floor in them. Here stands what there
-- is to say of the dwell by itself: when a job is refused for it, in the questions of a whole job; that an
-- accepted one has at most 255, and which limits its ticks and its cost then have; that without dwell demand
-- 3 is that of page 01; and that the dwell comes back from the text of a job. Number 2 has six stages, each
-- at a place of its own, so at place 5 it is the dwell's. Assumes nothing.
--     plan_dwell_exactly, numbers_dwell_exactly, write_dwell_exactly, house_dwell_exactly,
--     list_dwell_exactly       2 at place 5 is given exactly if the lent list is long enough, the five counts
--                              are within their limits and the dwell is over 255 (specs/Dwell.antt)
--     accepted_dwell           the dwell of an accepted job is at most 255; read_dwell so is one that was
--                              read
--     accepted_greatest, planned_greatest    ticks and cost of an accepted job, and of one that the program
--                              plans: 80,577, 81,600, 81,855 and 5,222,400 at most
--     accepted_plain, planned_plain    without dwell demand 3 is what page 01 says, and so are the limits:
--                              accepted_plain_within, planned_plain_within
--     dwell_comes_back, numbers_dwell_comes_back    the dwell of a job that was written is read
use mathlib.Core.Path.{◌≡◌, refl, ap, sym, ◌∙◌}
use mathlib.Core.Logic.{◌↔◌, ◌≢◌}
use mathlib.Core.List.{List, [], ◌∷◌, ◌++◌}
use Prim.Native.Nat.{ℕ, ◌≤◌, ◌<◌}
use native.Mathlib.Omega.{arith}
use lib.ListN.{length, take}
use Rattle.std.proofs.Common.{Result, Ok, Err}
use Rattle.hall.specs.declared.Job.{Job}
use Rattle.hall.specs.declared.Refusal.{Refusal}
use Rattle.hall.specs.Limits.{node_limit, dwell_limit, text_room, table_length}
use Rattle.hall.specs.Floor.{Network, floor}
use Rattle.hall.specs.Job.{Numbers, carriers, start, goal}
use Rattle.hall.specs.Stages.{Question, FirstOf, here, later, FirstAt, FirstIn, NoneIn, FirstStage, First}
use Rattle.hall.specs.Stages.{once}
use Rattle.hall.specs.Said.{refused, said_checked}
use Rattle.hall.specs.Questions.{short_table, dwell_count, each_lane, each_closed, each_move, each_order_place, each_walk}
use Rattle.hall.specs.Questions.{lacking, unfit, planning, writing, house_of_job, list_of_job}
use Rattle.hall.specs.Ticks.{Tables}
use Rattle.hall.specs.Path.{ShortestPath}
use Rattle.hall.specs.Plan.{tables_in}
use Rattle.hall.specs.Safety.{WithinGreatest}
use Rattle.hall.specs.NoDwell.{PlainDemand3, PlainWithin}
use Rattle.hall.proofs.Compose.{none_at_all, first_after}
use Rattle.hall.proofs.Places.{asked_here, asked_later, asked_clear}
use Rattle.hall.proofs.Left.{Among, first_among}
use Rattle.hall.proofs.Sound.{dwell_within, checks_of_none}
use Rattle.hall.proofs.NoDwell.{demand3_plain}
use Rattle.hall.proofs.DwellLimits.{within_greatest, within_plain}
use Rattle.records.specs.declared.Record.{Record}
use Rattle.reader.specs.Reading.{said_read, counts_of, AnyShort, ReadInto}
use Rattle.path.specs.Paths.{Unfit, said_housed}
use Rattle.planner.specs.Planning.{said_planned, Lent, ShortOf, Planning}
use Rattle.planner.proofs.Exactly.{planning_refused_exactly}
use Rattle.writer.specs.Writing.{said_written, Writing}
use Rattle.recorded.specs.Job.{record_job}
use Rattle.recorded.specs.Reading.{LentShort, ReadLeft, job_as_read}
use Rattle.recorded.specs.Planning.{tick_of, RecordPlanning}
use Rattle.recorded.specs.Asking.{HouseOfRecords, ListOfRecords}
use Rattle.recorded.specs.Writing.{RecordWriting}
use Rattle.recorded.proofs.Unique.{planned_sound}
use Rattle.demands.specs.Dwell.{before_dwell, DwellOver}
use Rattle.demands.specs.Owed.{PlannedAs}
use Rattle.demands.proofs.Demands.{plan_refused_exactly, house_refused_exactly, list_refused_exactly}
use Rattle.demands.proofs.Demands.{accepted_safe, accepted_within, accepted_text_written}
use Rattle.demands.proofs.Closed.{both}
use Rattle.demands.proofs.Written.{write_refused_exactly, numbers_come_back, job_comes_back}

-- ---- 2 at place 5

-- a check at one place alone is passed by what is first at another
passed : {m i : ℕ} {P : Type 0} {q : Question} {n p : ℕ} → p ≢ i → First (once m i P ∷ q) n p → (¬ P) × First q n p
passed {m} {i} {P} {q} {n} {p} other h = cases h.in_turn
  where
    in_stage : FirstAt (once m i P) n p → (¬ P) × First q n p
    in_stage (here x) = absurd (other x.1.0)
    in_stage (later k x) = absurd x

    cases : FirstOf (FirstIn (once m i P) n p) (NoneIn (once m i P)) (FirstStage q n p) → (¬ P) × First q n p
    cases (here x) = in_stage x.holds
    cases (later none x) = (λ y. (none.clear i).0 (refl, y), record { in_turn = x })

-- the check of the dwell is at fault, where nothing behind it gives 2
dwell_at : {w : ℕ} {rest : Question} → Among (λ n. n ≢ 2) rest → First (dwell_count w ∷ rest) 2 5 → dwell_limit < w
dwell_at {w} {rest} behind h = cases h.in_turn
  where
    in_stage : FirstAt (dwell_count w) 2 5 → dwell_limit < w
    in_stage (here x) = x.1.1
    in_stage (later k x) = absurd x

    cases : FirstOf (FirstIn (dwell_count w) 2 5) (NoneIn (dwell_count w)) (FirstStage rest 2 5) → dwell_limit < w
    cases (here x) = in_stage x.holds
    cases (later none x) =
        absurd (first_among (λ n. n ≢ 2) {q = rest} behind (record { in_turn = x }) refl)

module _ (j : Numbers) where
  -- behind the five counts, and before whatever does not give 2
  dwell_among : (rest : Question) → Among (λ n. n ≢ 2) rest →
      First (before_dwell j ++ (dwell_count j.dwell ∷ rest)) 2 5 ↔ DwellOver j
  dwell_among rest behind = (there, λ a. first_after a.none_before (asked_here a.over))
    where
      there : First (before_dwell j ++ (dwell_count j.dwell ∷ rest)) 2 5 → DwellOver j
      there h =
          let nodes = passed (λ e. omega arith) h in
          let lanes = passed (λ e. omega arith) nodes.1 in
          let closed = passed (λ e. omega arith) lanes.1 in
          let few = passed (λ e. omega arith) closed.1 in
          let order = passed (λ e. omega arith) few.1 in
          record {
            none_before =
                asked_clear nodes.0
                (asked_clear lanes.0
                (asked_clear closed.0 (asked_clear few.0 (asked_clear order.0 none_at_all))));
            over = dwell_at behind order.1;
          }

  -- the same behind 9
  dwell_behind_nine : (Short : Type 0) (rest : Question) → Among (λ n. n ≢ 2) rest →
      First (short_table Short ∷ (before_dwell j ++ (dwell_count j.dwell ∷ rest))) 2 5 ↔ ((¬ Short) × DwellOver j)
  dwell_behind_nine Short rest behind =
      let iff = dwell_among rest behind in (
        λ h. let x = passed (λ e. omega arith) h in (x.0, iff.0 x.1),
        λ a. asked_later a.0 (iff.1 a.1),
      )

  -- what is asked behind the dwell
  abbrev entries : Question → Question
  entries more =
      each_lane j.network.nodes j.network.lanes
      ∷ each_closed j.network.nodes j.network.closed
      ∷ each_move j.network.nodes j.network.closed j.moves
      ∷ each_order_place (carriers j) j.order
      ∷ more

  dwell_planning : (Short : Type 0) → First (planning Short j) 2 5 ↔ ((¬ Short) × DwellOver j)
  dwell_planning Short =
      dwell_behind_nine Short (entries (each_walk j.network j.moves ∷ [])) (omega arith)

  dwell_writing : (Short : Type 0) → First (writing Short j) 2 5 ↔ ((¬ Short) × DwellOver j)
  dwell_writing Short = dwell_behind_nine Short (entries []) (omega arith)

  dwell_house : (Short : Type 0) (c : ℕ) → First (house_of_job Short j c) 2 5 ↔ ((¬ Short) × DwellOver j)
  dwell_house Short c =
      dwell_behind_nine Short (entries (each_walk j.network j.moves ∷ lacking (carriers j) c ∷ []))
      (omega arith)

  dwell_list : (c : ℕ) (Unfit : Type 0) → First (list_of_job j c Unfit) 2 5 ↔ DwellOver j
  dwell_list c Unfit =
      dwell_among (entries (each_walk j.network j.moves ∷ lacking (carriers j) c ∷ unfit Unfit ∷ []))
      (omega arith)

-- ---- from the promises

module _ (N N' : Network) (records records' : List Record) (order order' : List ℕ) (dwell : ℕ) where
  abbrev j : Numbers
  j = record_job N records order dwell

  module _ (table table' : List ℕ) where
    pub plan_dwell_exactly : (r : Result ℕ Refusal) →
        RecordPlanning N N' records records' order order' dwell table table' r →
        (said_planned r ≡ refused 2 5) ↔ ((¬ (length table < table_length)) × DwellOver j)
    plan_dwell_exactly r promise =
        both (plan_refused_exactly N N' records records' order order' dwell table table' r promise 2 5)
        (dwell_planning j (length table < table_length))

    module _ (cost : ℕ) (promise : RecordPlanning N N' records records' order order' dwell table table' (Ok cost)) where
      pub accepted_dwell : dwell ≤ dwell_limit
      accepted_dwell = dwell_within j (planned_sound j table promise.given.no_fault)

      pub accepted_greatest : WithinGreatest dwell (carriers j) (tables_in table') (tick_of records') cost
      accepted_greatest =
          within_greatest accepted_dwell
          (accepted_within N N' records records' order order' dwell table table' cost promise)

  module _ (c : ℕ) where
    pub house_dwell_exactly : (path path' : List ℕ) (r : Result ℕ Refusal) →
        HouseOfRecords N N' records records' order order' dwell c path path' r →
        (said_housed r ≡ refused 2 5) ↔ ((¬ (length path < node_limit)) × DwellOver j)
    house_dwell_exactly path path' r a =
        both (house_refused_exactly N records order dwell c N' records' order' path path' r a 2 5)
        (dwell_house j (length path < node_limit) c)

    pub list_dwell_exactly : (list list' : List ℕ) (r : Result Unit Refusal) →
        ListOfRecords N N' records records' order order' dwell c list list' r →
        (said_checked r ≡ refused 2 5) ↔ DwellOver j
    list_dwell_exactly list list' r a =
        both (list_refused_exactly N records order dwell c N' records' order' list list' r a 2 5)
        (dwell_list j c (Unfit N (start j c) (goal j c) list))

pub numbers_dwell_exactly : (j : Numbers) (before after : Lent) (r : Result ℕ Refusal) →
    Planning j before after (said_planned r) → (said_planned r ≡ refused 2 5) ↔ ((¬ ShortOf before) × DwellOver j)
numbers_dwell_exactly j before after r promise =
    both (planning_refused_exactly j before after (said_planned r) promise 2 5) (dwell_planning j (ShortOf before))

pub write_dwell_exactly : (j : Numbers) (out out' : List ℕ) (r : Result ℕ Refusal) → Writing j out out' (said_written r) →
    (said_written r ≡ refused 2 5) ↔ ((¬ (length out < text_room)) × DwellOver j)
write_dwell_exactly j out out' r promise =
    both (write_refused_exactly j out out' r promise 2 5) (dwell_writing j (length out < text_room))

pub read_dwell : (text text' lanes lanes' closed closed' : List ℕ) (records records' : List Record)
    (order order' : List ℕ) (counts : Job) →
    ReadLeft text text' lanes lanes' closed closed' records records' order order' (Ok counts) →
    counts.dwell ≤ dwell_limit
read_dwell text text' lanes lanes' closed closed' records records' order order' counts a =
    dwell_within (job_as_read counts lanes' closed' records' order')
    (accepted_text_written text text' lanes lanes' closed closed' records records' order order' counts a).sound

-- ---- what the program plans

module _ {text : List ℕ} {j : Numbers} {t : Tables} {tick : ℕ → ℕ} {cost : ℕ} (a : PlannedAs text j t tick cost) where
  pub planned_greatest : WithinGreatest j.dwell (carriers j) t tick cost
  planned_greatest = within_greatest (dwell_within j (checks_of_none j a.no_fault)) a.within

  pub planned_plain : j.dwell ≡ 0 → (path : ℕ → List ℕ) →
      ((i : ℕ) → i < carriers j → ShortestPath (floor j.network) (start j i) (goal j i) (path i)) →
      PlainDemand3 (floor j.network) (carriers j) (start j) (goal j) t j.order tick path
  planned_plain none path shortest =
      (demand3_plain (floor j.network) (carriers j) (start j) (goal j) t j.order tick path).0
      (rw none at (a.safe path shortest))

  pub planned_plain_within : j.dwell ≡ 0 → PlainWithin (carriers j) t tick cost
  planned_plain_within none = within_plain (rw none at a.within)

-- ---- without dwell

pub accepted_plain : (N N' : Network) (records records' : List Record) (order order' table table' : List ℕ) (cost : ℕ) →
    RecordPlanning N N' records records' order order' 0 table table' (Ok cost) → (path : ℕ → List ℕ) →
    let j = record_job N records order 0 in
    ((i : ℕ) → i < carriers j → ShortestPath (floor N) (start j i) (goal j i) (path i)) →
    PlainDemand3 (floor N) (carriers j) (start j) (goal j) (tables_in table') order (tick_of records') path
accepted_plain N N' records records' order order' table table' cost promise path shortest =
    let j = record_job N records order 0 in
    (demand3_plain (floor N) (carriers j) (start j) (goal j) (tables_in table') order (tick_of records') path).0
    (accepted_safe N N' records records' order order' 0 table table' cost promise path shortest)

pub accepted_plain_within : (N N' : Network) (records records' : List Record) (order order' table table' : List ℕ)
    (cost : ℕ) → RecordPlanning N N' records records' order order' 0 table table' (Ok cost) →
    PlainWithin (carriers (record_job N records order 0)) (tables_in table') (tick_of records') cost
accepted_plain_within N N' records records' order order' table table' cost promise =
    within_plain (accepted_within N N' records records' order order' 0 table table' cost promise)

-- ---- there and back

-- what reading answers is the counts with the dwell, so two answers that are one have one dwell
dwell_in : Result Job Refusal → ℕ
dwell_in (Ok counts) = counts.dwell
dwell_in (Err q) = 0

same_dwell : (j : Numbers) {r : Result Job Refusal} {counts : Job} → r ≡ Ok (counts_of j) → r ≡ Ok counts →
    counts.dwell ≡ j.dwell
unfolding dwell_in
same_dwell j e f = ap dwell_in (sym f ∙ e)

pub numbers_dwell_comes_back : (lanes closed moves order lanes' closed' moves' order' : List ℕ) (j : Numbers)
    (out out' : List ℕ) (size : ℕ) (r : Result Job Refusal) (counts : Job) →
    Writing j out out' (said_written (Ok size)) →
    ¬ AnyShort lanes closed moves order →
    ReadInto (take size out') lanes closed moves order lanes' closed' moves' order' (said_read r) →
    r ≡ Ok counts → counts.dwell ≡ j.dwell
numbers_dwell_comes_back lanes closed moves order lanes' closed' moves' order' j out out' size r counts a long b =
    same_dwell j
    (numbers_come_back lanes closed moves order lanes' closed' moves' order' j out out' size r a long b).0

pub dwell_comes_back : {N N' : Network} {records records' : List Record} {order order' : List ℕ} {dwell : ℕ}
    {out out' text' lanes₀ lanes₁ closed₀ closed₁ : List ℕ} {records₀ records₁ : List Record} {order₀ order₁ : List ℕ}
    (size : ℕ) (r : Result Job Refusal) (counts : Job) →
    RecordWriting N N' records records' order order' dwell out out' (Ok size) →
    ¬ LentShort lanes₀ closed₀ records₀ order₀ →
    ReadLeft (take size out') text' lanes₀ lanes₁ closed₀ closed₁ records₀ records₁ order₀ order₁ r →
    r ≡ Ok counts → counts.dwell ≡ dwell
dwell_comes_back {N} {records = records} {order = order} {dwell = dwell} size r counts a long b =
    same_dwell (record_job N records order dwell)
    (job_comes_back size r a long b).0
