-- The three demands (rules 12.1 to 12.3), as theorems that start from the promises of the questions as these
-- stand in the source. Demand 1: each question has one answer for every input, is refused with a listed
-- number at a place exactly when the list says, and every lent table then holds what the list says. Demand 2:
-- the distances are the true least lane counts, each start tick is the smallest permitted, the cost is the
-- sum of the goal ticks, and without an earlier fault 8 comes exactly when some goal has no walk to it from
-- its start. Demand 3: whatever shortest paths the carriers take, no two meet or cross, and each is where it
-- has to be. Both speak of open nodes, since a network's floor has no others (hall's `floor`). The work is
-- done by the laws that are cited. That one move's questions have one answer, and the choice too, stands in
-- path's Unique.antt. Assumes nothing.
--     one_reading, one_planning, one_house, one_judgement    demand 1: one answer and one content of each
--                                                            table
--     accepted_exactly, refused_exactly, refused_by_text    demand 1: a text is accepted, and refused with a
--                                               number at a line, exactly when the list says
--     nine_exactly                              demand 1: 9 at line 0 exactly if a table is short
--     nine_untouched, refused_zeroed, accepted_tables    demand 1: what the tables of reading hold then
--     accepted_text_written, read_faultless     what was read is the job that the text writes; planning it
--                                               can give 8 only
--     plan_refused_exactly, plan_accepted_exactly    demand 1: planning is refused with a number at a place,
--                                                    and accepted, exactly so
--     nine_kept, other_zeroed, accepted_left    demand 1: what planning leaves in the table and in the
--                                               records
--     every_job_once, accepted_once             each job has one plan or one first fault by the definitions
--                                               alone, so that nothing is promised of the empty set
--     house_refused_exactly, house_accepted_exactly, house_left, house_laid    demand 1: the house path of a
--                                                                              carrier, with a job
--     list_refused_exactly, list_sound_exactly  demand 1: the question about one list of a carrier, with a
--                                               job
--     move_house_.., move_list_..               demand 1: the same with a network and a move
--     choice_own_exactly, choice_spare_exactly, choice_empty_exactly    demand 1: the choice, which has no
--                                                                       number, by what passes
--     accepted_right                            demand 2
--     unreached_refused, refused_unreached      demand 2: 8, both ways
--     accepted_safe, accepted_within            demand 3, and the limits of ticks and cost
--     accepted_paths                            each carrier has a shortest path, so that demand 3 speaks of
--                                               some
use mathlib.Core.Path.{◌≡◌, refl, sym, ◌∙◌, ap, subst}
use mathlib.Core.Logic.{◌⊎◌, ◌↔◌, ◌≢◌}
use mathlib.Core.List.{List, [], ◌∷◌}
use Prim.Native.Nat.{ℕ, ◌+◌, ◌≤◌, ◌<◌}
use native.Mathlib.Omega.{arith}
use lib.ListN.{length}
use borrow.Author.Tests.{ne_eqb}
use denote.Ref.{Bor}
use Rattle.std.proofs.Common.{Result, Ok, Err}
use Rattle.hall.specs.declared.Job.{Job}
use Rattle.hall.specs.declared.Refusal.{Refusal}
use Rattle.hall.specs.Limits.{node_limit, carrier_limit, lane_numbers, table_length}
use Rattle.hall.specs.Floor.{NoWalk, Network, floor}
use Rattle.hall.specs.Job.{Numbers, carriers, start, goal}
use Rattle.hall.specs.Stages.{Question, FirstOf, here, later, FirstAt, FirstStage, First, None}
use Rattle.hall.specs.Said.{Said, accepted, refused, Fits, said_checked}
use Rattle.hall.specs.Questions.{short_table, each_walk, checks_question, house_of_move, list_of_move, house_of_job, list_of_job}
use Rattle.hall.specs.Left.{zeroed, filled, left}
use Rattle.hall.specs.Ticks.{goal_tick}
use Rattle.hall.specs.Path.{ShortestPath}
use Rattle.hall.specs.Plan.{tables_in}
use Rattle.hall.specs.Safety.{Demand3, Within}
use Rattle.hall.proofs.Walks.{true_distance}
use Rattle.hall.proofs.Ticks.{total_same}
use Rattle.hall.proofs.Stages as stages
use Rattle.hall.proofs.Stages.{none_excludes, judged_unique}
use Rattle.hall.proofs.Compose.{first_split}
use Rattle.hall.proofs.Places.{none_asked, first_past}
use Rattle.hall.proofs.Left.{NotNine, left_by_other, first_among}
use Rattle.hall.proofs.Sound.{walks_of_none, only_eight}
use Rattle.hall.proofs.Demand.{plan_safe}
use Rattle.hall.proofs.PlanLaws.{plan_within}
use Rattle.hall.proofs.Summit.{PlannedOnce, RefusedOnce, planned_once, every_job}
use Rattle.records.specs.declared.Record.{Record}
use Rattle.records.proofs.Laws.{moves_count}
use Rattle.tables.specs.Filling.{TableLeft}
use Rattle.form.specs.Texts.{Refused as RefusedText}
use Rattle.form.specs.JobText.{job_text}
use Rattle.form.specs.Jobs.{WrittenJob}
use Rattle.form.proofs.JobTexts.{refused_with}
use Rattle.reader.specs.Reading.{said_read, counts_of, Reason, faulty}
use Rattle.reader.proofs.Exactly.{by_form}
use Rattle.path.specs.Paths.{Unfit, said_housed, House, HouseAnswer, ListAnswer, Passes, ChoiceAnswer}
use Rattle.path.proofs.Exactly as paths
use Rattle.planner.specs.Planning.{said_planned}
use Rattle.recorded.specs.Job.{record_job}
use Rattle.recorded.specs.Reading.{LentShort, filled_records, GivenJob, ReadLeft, job_as_read}
use Rattle.recorded.specs.Planning.{record_question, tick_of, distance_of, RecordsLeft, GivenRecords, RecordPlanning}
use Rattle.recorded.specs.Asking.{HouseOfRecords, ListOfRecords}
use Rattle.recorded.specs.Demands.{Demand2, NoEarlierFault}
use Rattle.recorded.proofs.ReadJob.{read_is_written}
use Rattle.recorded.proofs.ReadExactly as reads
use Rattle.recorded.proofs.Unique.{read_job_unique, plan_unique, planned_sound, house_unique, judge_unique}

-- ---- demand 1: reading

module _ (text lanes closed : List ℕ) (records : List Record) (order : List ℕ) (r s : Result Job Refusal)
    (t u l m cs ds : List ℕ) (rs qs : List Record) (o p : List ℕ) where
  pub one_reading : ReadLeft text t lanes l closed cs records rs order o r →
      ReadLeft text u lanes m closed ds records qs order p s →
      (r ≡ s) × (t ≡ u) × (l ≡ m) × (cs ≡ ds) × (rs ≡ qs) × (o ≡ p)
  one_reading = read_job_unique text lanes closed records order r s t u l m cs ds rs qs o p

module _ {text text' lanes lanes' closed closed' : List ℕ} {records records' : List Record}
    {order order' : List ℕ} {r : Result Job Refusal}
    (a : ReadLeft text text' lanes lanes' closed closed' records records' order order' r) where
  -- a job's written form is accepted, with its counts and in tables that hold it, and nothing else is
  pub accepted_exactly : (j : Numbers) →
      ((¬ LentShort lanes closed records order) × WrittenJob text j)
      ↔ ((said_read r ≡ accepted (counts_of j)) × (job_as_read (counts_of j) lanes' closed' records' order' ≡ j))
  accepted_exactly =
      reads.accepted_exactly text lanes closed records order lanes' closed' records' order' (said_read r) a.given

  -- refused with the number n at a line, exactly when the list says
  pub refused_exactly : (n line : ℕ) →
      (said_read r ≡ refused n line) ↔ Reason (LentShort lanes closed records order) text n line
  refused_exactly =
      reads.refused_exactly text lanes closed records order lanes' closed' records' order' (said_read r) a.given

  -- with long enough tables that is what the form says of the text
  pub refused_by_text : ¬ LentShort lanes closed records order → (n line : ℕ) →
      (said_read r ≡ refused n line) ↔ RefusedText job_text text n line
  refused_by_text long n line =
      let iff = refused_exactly n line in
      (λ e. by_form text n line long (iff.0 e), λ x. iff.1 (faulty long x))

  pub nine_exactly : (said_read r ≡ refused 9 0) ↔ LentShort lanes closed records order
  nine_exactly = reads.nine_exactly text lanes closed records order lanes' closed' records' order' (said_read r) a.given

  -- what the tables hold then

  pub nine_untouched : LentShort lanes closed records order →
      (lanes' ≡ lanes) × (closed' ≡ closed) × (records' ≡ records) × (order' ≡ order)
  nine_untouched s =
      let x = subst (GivenJob text lanes closed records order lanes' closed' records' order') (nine_exactly.1 s) a.given in
      (x.lanes_left_lem, x.closed_left, x.records_left, x.order_left)

  pub refused_zeroed : ¬ LentShort lanes closed records order → (n line : ℕ) → RefusedText job_text text n line →
      (lanes' ≡ zeroed lane_numbers lanes)
      × (closed' ≡ zeroed node_limit closed)
      × (records' ≡ filled_records [] records)
      × (order' ≡ zeroed carrier_limit order)
  refused_zeroed long n line faulty-at =
      let e = (refused_by_text long n line).1 faulty-at in
      let x = subst (GivenJob text lanes closed records order lanes' closed' records' order') e a.given in
      let other : NotNine n = (refused_with text n line faulty-at).4 in (
        x.lanes_left_lem ∙ left_by_other n lane_numbers lanes other,
        x.closed_left ∙ left_by_other n node_limit closed other,
        rw (ne_eqb n 9 other) at x.records_left,
        x.order_left ∙ left_by_other n carrier_limit order other,
      )

  pub accepted_tables : ¬ LentShort lanes closed records order → (j : Numbers) → WrittenJob text j →
      (lanes' ≡ filled j.network.lanes lane_numbers lanes)
      × (closed' ≡ filled j.network.closed node_limit closed)
      × (records' ≡ filled_records j.moves records)
      × (order' ≡ filled j.order carrier_limit order)
  accepted_tables long j w =
      let all = reads.accepted_holds text lanes closed records order lanes' closed' records' order' long j w in
      let holds = all (said_read r) a.given in
      (holds.1, holds.2, holds.3, holds.4)

-- an accepted text is the written form of the job that is left in the tables, which has no fault that comes
-- before 8
module _ (text text' lanes lanes' closed closed' : List ℕ) (records records' : List Record)
    (order order' : List ℕ) (counts : Job)
    (promise : ReadLeft text text' lanes lanes' closed closed' records records' order order' (Ok counts)) where
  pub accepted_text_written : WrittenJob text (job_as_read counts lanes' closed' records' order')
  accepted_text_written =
      read_is_written text lanes lanes' closed closed' records records' order order' counts promise.given

  pub read_faultless : (table : List ℕ) → table_length ≤ length table →
      NoEarlierFault (job_as_read counts lanes' closed' records' order') table
  read_faultless table long = record { long_table = long; none_checked = accepted_text_written.sound }

module _ (N N' : Network) (records records' : List Record) (order order' : List ℕ) (dwell : ℕ)
    (table table' : List ℕ) where
  abbrev j : Numbers
  j = record_job N records order dwell

  -- what `plan` promises of an answer r and of the lists that it leaves
  abbrev Plans : Result ℕ Refusal → Type 0
  Plans r = RecordPlanning N N' records records' order order' dwell table table' r

  -- ---- demand 1: planning

  pub one_planning : (r s : Result ℕ Refusal) (M : Network) (qs : List Record) (p u : List ℕ) → Plans r →
      RecordPlanning N M records qs order p dwell table u s →
      (r ≡ s) × (N' ≡ M) × (records' ≡ qs) × (order' ≡ p) × (table' ≡ u)
  one_planning r s M qs p u = plan_unique N records order dwell table r s N' M records' qs order' p table' u

  given_fits : (s : Said ℕ) → GivenRecords j records records' table table' s → Fits (record_question j table) s
  given_fits (accepted cost) a = a.no_fault
  given_fits (refused n p) a = a.first

  -- the number n at place p is answered exactly if it is the first fault of the list
  pub plan_refused_exactly : (r : Result ℕ Refusal) → Plans r → (n p : ℕ) →
      (said_planned r ≡ refused n p) ↔ First (record_question j table) n p
  plan_refused_exactly r a = stages.refused_exactly (said_planned r) (given_fits (said_planned r) a.given)

  -- and a cost exactly if there is no fault
  pub plan_accepted_exactly : (r : Result ℕ Refusal) → Plans r →
      ((cost : ℕ) × (r ≡ Ok cost)) ↔ None (record_question j table)
  plan_accepted_exactly r a = (λ h. there h.0 h.1, back r a)
    where
      there : (cost : ℕ) → r ≡ Ok cost → None (record_question j table)
      there cost e = let b : Plans (Ok cost) = subst Plans e a in b.given.no_fault

      back : (r : Result ℕ Refusal) → Plans r → None (record_question j table) → (cost : ℕ) × (r ≡ Ok cost)
      back (Ok cost) b none = (cost, refl)
      back (Err q) b none = absurd (none_excludes b.given.first none)

  -- what is left in the table and the records

  refused_as : (r : Result ℕ Refusal) → Plans r → (n p : ℕ) → said_planned r ≡ refused n p →
      GivenRecords j records records' table table' (refused n p)
  refused_as r a n p e = rw e at a.given

  pub nine_kept : (r : Result ℕ Refusal) → Plans r → (p : ℕ) → said_planned r ≡ refused 9 p →
      (table' ≡ table) × (records' ≡ records)
  nine_kept r a p e = let g = refused_as r a 9 p e in (g.table_left, g.records_kept)

  pub other_zeroed : (r : Result ℕ Refusal) → Plans r → (n p : ℕ) → said_planned r ≡ refused n p → NotNine n →
      (table' ≡ zeroed table_length table) × (records' ≡ records)
  other_zeroed r a n p e other =
      let g = refused_as r a n p e in
      (g.table_left ∙ left_by_other n table_length table other, g.records_kept)

  pub accepted_left : (cost : ℕ) → Plans (Ok cost) →
      TableLeft (carriers j) table table' × RecordsLeft (tables_in table') records records'
  accepted_left cost a = (a.given.table_left, a.given.records_left)

  -- what the definitions give of every job, and of an accepted one

  pub every_job_once : PlannedOnce j ⊎ RefusedOnce j
  every_job_once = every_job j

  pub accepted_once : (cost : ℕ) → Plans (Ok cost) → PlannedOnce j
  accepted_once cost a = planned_once j (none_asked a.given.no_fault).1

  -- ---- demand 2

  module _ (cost : ℕ) (promise : Plans (Ok cost)) where
    own_distance : (i : ℕ) → i < carriers j → distance_of records' i ≡ (tables_in table').sg i i
    own_distance i h = promise.given.records_left.distances i (rw (moves_count records) at h)

    same_goal_tick : (i : ℕ) → i < carriers j →
        goal_tick (tables_in table') (tick_of records') i ≡ tick_of records' i + distance_of records' i
    same_goal_tick i h = ap (λ (d : ℕ). tick_of records' i + d) (sym (own_distance i h))

    pub accepted_right : Demand2 j records' table' cost
    accepted_right =
        let plan = promise.given.plan in
        record {
          table_true = plan.true_distances;
          distance_true = λ i h.
              rw (own_distance i h) (true_distance (plan.true_distances.start_goal i i h h) (plan.reached i h));
          smallest_tick = plan.ticks.smallest;
          cost_is_sum =
              plan.cost_is
              ∙ total_same (carriers j) (goal_tick (tables_in table') (tick_of records'))
              (λ i. tick_of records' i + distance_of records' i) same_goal_tick;
        }

  -- 8 is asked last, and nothing else gives it
  first_eight : (p : ℕ) → First (record_question j table) 8 p →
      (p < carriers j) × NoWalk (floor N) (start j p) (goal j p)
  first_eight p first = cases (first_split before (each_walk N j.moves ∷ []) first)
    where
      before : Question
      before = short_table (length table < table_length) ∷ checks_question j

      in_stage : FirstAt (each_walk N j.moves) 8 p → (p < carriers j) × NoWalk (floor N) (start j p) (goal j p)
      in_stage (here x) = x.1
      in_stage (later k x) = absurd x

      in_walks : FirstStage (each_walk N j.moves ∷ []) 8 p →
          (p < carriers j) × NoWalk (floor N) (start j p) (goal j p)
      in_walks (here x) = in_stage x.holds
      in_walks (later k x) = absurd x

      cases : FirstOf (First before 8 p) (None before) (First (each_walk N j.moves ∷ []) 8 p) →
          (p < carriers j) × NoWalk (floor N) (start j p) (goal j p)
      cases (here x) = absurd (first_among (λ n. ¬ (n ≡ 8)) {q = before} (omega arith) x refl)
      cases (later k x) = in_walks x.in_turn

  pub refused_unreached : (r : Result ℕ Refusal) (p : ℕ) → Plans r → said_planned r ≡ refused 8 p →
      (p < carriers j) × NoWalk (floor N) (start j p) (goal j p)
  refused_unreached r p a e = first_eight p ((plan_refused_exactly r a 8 p).0 e)

  pub unreached_refused : NoEarlierFault j table → (r : Result ℕ Refusal) → Plans r → (i : ℕ) → i < carriers j →
      NoWalk (floor N) (start j i) (goal j i) → (p : ℕ) × (said_planned r ≡ refused 8 p)
  unreached_refused no-earlier (Ok c) a i h none =
      absurd (walks_of_none j (none_asked a.given.no_fault).1 i h none)
  unreached_refused no-earlier (Err q) a i h none =
      let long : ¬ (length table < table_length) = λ l. omega (arith, no-earlier.long_table) in
      let eight = (only_eight j no-earlier.none_checked (first_past long a.given.first)).0 in
      (q.place, λ k. refused (eight k) q.place)

  -- ---- demand 3

  module _ (cost : ℕ) (promise : Plans (Ok cost)) where
    pub accepted_safe : (path : ℕ → List ℕ) →
        ((i : ℕ) → i < carriers j → ShortestPath (floor N) (start j i) (goal j i) (path i)) →
        Demand3 (floor N) dwell (carriers j) (start j) (goal j) (tables_in table') order (tick_of records') path
    accepted_safe =
        plan_safe j (tables_in table') (tick_of records') cost (planned_sound j table promise.given.no_fault)
        promise.given.plan

    pub accepted_within : Within dwell (carriers j) (tables_in table') (tick_of records') cost
    accepted_within =
        plan_within j (planned_sound j table promise.given.no_fault) (tables_in table') (tick_of records') cost
        promise.given.plan

    pub accepted_paths : (i : ℕ) → i < carriers j →
        (l : List ℕ) × ShortestPath (floor N) (start j i) (goal j i) l
    accepted_paths = (accepted_once cost promise).paths

-- ---- demand 1: one carrier's path, with a job

module _ (N : Network) (records : List Record) (order : List ℕ) (dwell c : ℕ) where
  abbrev asked-job : Numbers
  asked-job = record_job N records order dwell

  abbrev asked-list : List ℕ → Question
  asked-list list = list_of_job asked-job c (Unfit N (start asked-job c) (goal asked-job c) list)

  module _ (M O : Network) (rs qs : List Record) (o p : List ℕ) where
    pub one_house : (path t u : List ℕ) (r s : Result ℕ Refusal) →
        HouseOfRecords N M records rs order o dwell c path t r → HouseOfRecords N O records qs order p dwell c path u s →
        ((r ≡ s) × (t ≡ u)) × ((M ≡ O) × (rs ≡ qs) × (o ≡ p))
    one_house = house_unique N records order dwell c M O rs qs o p

    pub one_judgement : (list t u : List ℕ) (r s : Result Unit Refusal) →
        ListOfRecords N M records rs order o dwell c list t r → ListOfRecords N O records qs order p dwell c list u s →
        ((r ≡ s) × (t ≡ u)) × ((M ≡ O) × (rs ≡ qs) × (o ≡ p))
    one_judgement = judge_unique N records order dwell c M O rs qs o p

  module _ (N' : Network) (records' : List Record) (order' : List ℕ) where
    module _ (path path' : List ℕ) (r : Result ℕ Refusal)
        (a : HouseOfRecords N N' records records' order order' dwell c path path' r) where
      abbrev house-question : Question
      house-question = house_of_job (length path < node_limit) asked-job c

      pub house_refused_exactly : (n p : ℕ) → (said_housed r ≡ refused n p) ↔ First house-question n p
      house_refused_exactly =
          paths.left_refused_exactly house-question N (start asked-job c) (goal asked-job c) path path'
          (said_housed r) a.given

      pub house_accepted_exactly : ((count : ℕ) × (said_housed r ≡ accepted count)) ↔ None house-question
      house_accepted_exactly =
          paths.left_accepted_exactly house-question N (start asked-job c) (goal asked-job c) path path'
          (said_housed r) a.given

      -- what the list holds then
      pub house_left : (n p : ℕ) → said_housed r ≡ refused n p → path' ≡ left n node_limit path
      house_left n p e = let b = rw e at a.given in b.1

      pub house_laid : (count : ℕ) → said_housed r ≡ accepted count →
          House N (start asked-job c) (goal asked-job c) path path' count
      house_laid count e = let b = rw e at a.given in b.1

    module _ (list list' : List ℕ) (r : Result Unit Refusal)
        (a : ListOfRecords N N' records records' order order' dwell c list list' r) where
      pub list_refused_exactly : (n p : ℕ) → (said_checked r ≡ refused n p) ↔ First (asked-list list) n p
      list_refused_exactly = stages.refused_exactly (said_checked r) a.given

      pub list_sound_exactly : (r ≡ Ok tt) ↔ None (asked-list list)
      list_sound_exactly = (λ e. rw e at a.given, λ none. judged_unique (asked-list list) r (Ok tt) a.given none)

-- ---- demand 1: one move

module _ (N N' : Network) (s g : ℕ) where
  module _ (path path' : List ℕ) (r : Result ℕ Refusal) (a : HouseAnswer N N' s g path path' r) where
    pub move_house_refused_exactly : (n p : ℕ) →
        (said_housed r ≡ refused n p) ↔ First (house_of_move (length path < node_limit) N s g) n p
    move_house_refused_exactly = paths.house_refused_exactly r a

    pub move_house_accepted_exactly :
        ((count : ℕ) × (said_housed r ≡ accepted count)) ↔ None (house_of_move (length path < node_limit) N s g)
    move_house_accepted_exactly = paths.house_accepted_exactly r a

    pub move_house_left : (n p : ℕ) → said_housed r ≡ refused n p → path' ≡ left n node_limit path
    move_house_left n p e = let b = rw e at a.given in b.1

    pub move_house_laid : (count : ℕ) → said_housed r ≡ accepted count → House N s g path path' count
    move_house_laid count e = let b = rw e at a.given in b.1

  module _ (list list' : List ℕ) (r : Result Unit Refusal) (a : ListAnswer N N' s g list list' r) where
    pub move_list_refused_exactly : (n p : ℕ) →
        (said_checked r ≡ refused n p) ↔ First (list_of_move N s g (Unfit N s g list)) n p
    move_list_refused_exactly = paths.list_refused_exactly r a

    pub move_list_sound_exactly : (r ≡ Ok tt) ↔ Passes N s g list
    move_list_sound_exactly = paths.list_sound_exactly r a

  module _ (own own' spare spare' r : Bor (List ℕ)) (a : ChoiceAnswer N N' s g own own' spare spare' r) where
    pub choice_own_exactly : Passes N s g own.now ↔ ((r ≡ own) × (r.now ≢ []))
    choice_own_exactly = paths.own_exactly a

    pub choice_spare_exactly : ((¬ Passes N s g own.now) × Passes N s g spare.now)
        ↔ ((r ≡ spare) × (r ≢ own) × (r.now ≢ []))
    choice_spare_exactly = paths.spare_exactly a

    pub choice_empty_exactly : ((¬ Passes N s g own.now) × (¬ Passes N s g spare.now))
        ↔ ((r.ref_ptr ≡ own.ref_ptr) × (r.now ≡ []))
    choice_empty_exactly = paths.empty_exactly a
