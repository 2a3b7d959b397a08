-- Refusals for closed nodes (rules 8.12, 8.13 and 12.1), as theorems that start from the promises as these
-- stand in the source: 12 and 13 are given exactly when the list of checks says, each by one stage and by no
-- other. Where carriers stand is in Open.antt. Assumes nothing.
--     plan_twelve_exactly, plan_thirteen_exactly    planning with records gives 12, and 13, at a place
--                           exactly if the table is long enough and an entry of the closed nodes, or an end
--                           of a move, is at fault there (specs/Closed.antt)
--     numbers_twelve_exactly, numbers_thirteen_exactly, write_twelve_exactly, write_thirteen_exactly    the
--                           same of planning from numbers and of writing
use mathlib.Core.Path.{◌≡◌, refl}
use mathlib.Core.Logic.{◌↔◌, ◌≢◌}
use mathlib.Core.List.{List, [], ◌∷◌, ◌++◌}
use Prim.Native.Nat.{ℕ, ◌<◌}
use native.Mathlib.Omega.{arith}
use lib.ListN.{length}
use Rattle.std.proofs.Common.{Result}
use Rattle.hall.specs.declared.Refusal.{Refusal}
use Rattle.hall.specs.Limits.{text_room, table_length}
use Rattle.hall.specs.Floor.{Network}
use Rattle.hall.specs.Job.{Numbers, carriers, start, goal}
use Rattle.hall.specs.Stages.{Stage, Question, FirstOf, here, later, FirstAt, FirstIn, FirstStage, First, None}
use Rattle.hall.specs.Said.{refused}
use Rattle.hall.specs.Refusals.{ClosedFault, NoNode-at, ClosedEnd-at}
use Rattle.hall.specs.Questions.{short_table, closed_checks, each_closed, move_checks, each_move, each_order_place}
use Rattle.hall.specs.Questions.{each_walk, planning, writing}
use Rattle.hall.proofs.Compose.{first_split, first_after, first_here}
use Rattle.hall.proofs.Places.{each_first, none_asked, asked_clear}
use Rattle.hall.proofs.Left.{Among, first_among}
use Rattle.records.specs.declared.Record.{Record}
use Rattle.planner.specs.Planning.{said_planned, Lent, ShortOf, Planning}
use Rattle.planner.proofs.Exactly.{planning_refused_exactly}
use Rattle.writer.specs.Writing.{said_written, Writing}
use Rattle.recorded.specs.Job.{record_job}
use Rattle.recorded.specs.Planning.{RecordPlanning}
use Rattle.demands.specs.Closed.{before_closed, before_moves, ClosedEntryAt, ClosedEndAt}
use Rattle.demands.proofs.Demands.{plan_refused_exactly}
use Rattle.demands.proofs.Written.{write_refused_exactly}

-- ---- a number that one stage alone gives

module _ (f : ℕ) (a : Question) (s : Stage) (b : Question) (p : ℕ) (others : Among (λ n. n ≢ f) a)
    (behind : Among (λ n. n ≢ f) b) where
  stage_alone : First (a ++ (s ∷ b)) f p ↔ (None a × FirstIn s f p)
  stage_alone = (λ h. cases (first_split a (s ∷ b) h), λ h. first_after h.0 (first_here h.1))
    where
      in_turn : None a → FirstStage (s ∷ b) f p → None a × FirstIn s f p
      in_turn none (here x) = (none, x)
      in_turn none (later k x) =
          absurd (first_among (λ n. n ≢ f) {q = b} behind (record { in_turn = x }) refl)

      cases : FirstOf (First a f p) (None a) (First (s ∷ b) f p) → None a × FirstIn s f p
      cases (here x) = absurd (first_among (λ n. n ≢ f) {q = a} others x refl)
      cases (later none x) = in_turn none x.in_turn

-- ---- 12 and 13 among the checks of a job

module _ (j : Numbers) (p : ℕ) where
  abbrev nodes : ℕ
  nodes = j.network.nodes

  abbrev closed : List ℕ
  closed = j.network.closed

  entry_in_stage : FirstAt (each_closed nodes closed) 12 p → (p < length closed) × ClosedFault nodes closed p
  entry_in_stage (here x) = x.1
  entry_in_stage (later k x) = absurd x

  entry_at : None (before_closed j) → FirstIn (each_closed nodes closed) 12 p → ClosedEntryAt j p
  entry_at none x =
      let y = entry_in_stage x.holds in
      record {
        none_before = none;
        is_entry = y.0;
        at_fault = y.1;
        lowest = λ k l h. (x.lowest k l).0 (omega (arith, y.0), h);
      }

  entry_first : ClosedEntryAt j p → FirstIn (each_closed nodes closed) 12 p
  entry_first a =
      each_first (closed_checks nodes closed) a.is_entry (record { clear = λ k l. (a.lowest k l, tt) })
      (here (refl, a.at_fault))

  end_in_stage : FirstAt (each_move nodes closed j.moves) 13 p →
      (p < carriers j)
      × (¬ NoNode-at nodes (start j p) (goal j p))
      × (start j p ≢ goal j p)
      × ClosedEnd-at closed (start j p) (goal j p)
  end_in_stage (here x) = absurd (let y : ◌≡◌ {A = ℕ} 13 4 = x.0 in omega arith)
  end_in_stage (later numbered (here x)) = absurd (let y : ◌≡◌ {A = ℕ} 13 5 = x.0 in omega arith)
  end_in_stage (later numbered (later differ (here x))) =
      (x.1.0, (λ h. numbered (x.1.0, h)), (λ h. differ (x.1.0, h)), x.1.1)
  end_in_stage (later numbered (later differ (later k x))) = absurd x

  end_at : None (before_moves j) → FirstIn (each_move nodes closed j.moves) 13 p → ClosedEndAt j p
  end_at none x =
      let y = end_in_stage x.holds in
      record {
        none_before = none;
        is_move = y.0;
        numbered = y.1;
        ends_differ = y.2;
        closed_end = y.3;
        lowest = λ i l.
            let clear = x.lowest i l in
            let m : i < carriers j = omega (arith, y.0) in
            (λ h. clear.0 (m, h), (λ h. clear.1.0 (m, h), (λ h. clear.1.1.0 (m, h), tt)));
      }

  end_first : ClosedEndAt j p → FirstIn (each_move nodes closed j.moves) 13 p
  end_first a =
      each_first (move_checks nodes closed j.moves) a.is_move (record { clear = a.lowest })
      (later a.numbered (later a.ends_differ (here (refl, a.closed_end))))

  -- behind 9, and before whatever gives neither
  module _ (Short : Type 0) (rest : Question) where
    twelve_among : Among (λ n. n ≢ 12) rest →
        First
        (short_table Short
        ∷ (before_closed j
        ++ (each_closed nodes closed
        ∷ each_move nodes closed j.moves
        ∷ each_order_place (carriers j) j.order
        ∷ rest)))
        12 p
        ↔ ((¬ Short) × ClosedEntryAt j p)
    twelve_among others =
        let iff =
        stage_alone 12 (short_table Short ∷ before_closed j) (each_closed nodes closed)
        (each_move nodes closed j.moves ∷ each_order_place (carriers j) j.order ∷ rest) p
        (omega arith) (omega arith, (omega arith, others)) in (
          λ h. let x = iff.0 h in let n = none_asked x.0 in (n.0, entry_at n.1 x.1),
          λ a. iff.1 (asked_clear a.0 a.1.none_before, entry_first a.1),
        )

    thirteen_among : Among (λ n. n ≢ 13) rest →
        First
        (short_table Short
        ∷ (before_moves j
        ++ (each_move nodes closed j.moves
        ∷ each_order_place (carriers j) j.order
        ∷ rest)))
        13 p
        ↔ ((¬ Short) × ClosedEndAt j p)
    thirteen_among others =
        let iff =
        stage_alone 13 (short_table Short ∷ before_moves j) (each_move nodes closed j.moves)
        (each_order_place (carriers j) j.order ∷ rest) p
        (omega arith) (omega arith, others) in (
          λ h. let x = iff.0 h in let n = none_asked x.0 in (n.0, end_at n.1 x.1),
          λ a. iff.1 (asked_clear a.0 a.1.none_before, end_first a.1),
        )

  module _ (Short : Type 0) where
    twelve_planning : First (planning Short j) 12 p ↔ ((¬ Short) × ClosedEntryAt j p)
    twelve_planning = twelve_among Short (each_walk j.network j.moves ∷ []) (omega arith)

    thirteen_planning : First (planning Short j) 13 p ↔ ((¬ Short) × ClosedEndAt j p)
    thirteen_planning = thirteen_among Short (each_walk j.network j.moves ∷ []) (omega arith)

    twelve_writing : First (writing Short j) 12 p ↔ ((¬ Short) × ClosedEntryAt j p)
    twelve_writing = twelve_among Short [] tt

    thirteen_writing : First (writing Short j) 13 p ↔ ((¬ Short) × ClosedEndAt j p)
    thirteen_writing = thirteen_among Short [] tt

-- ---- from the promises

pub both : {A B C : Type 0} → A ↔ B → B ↔ C → A ↔ C
both x y = (λ a. y.0 (x.0 a), λ c. x.1 (y.1 c))

module _ (N N' : Network) (records records' : List Record) (order order' : List ℕ) (dwell : ℕ)
    (table table' : List ℕ) (r : Result ℕ Refusal)
    (promise : RecordPlanning N N' records records' order order' dwell table table' r) (p : ℕ) where
  abbrev j : Numbers
  j = record_job N records order dwell

  pub plan_twelve_exactly :
      (said_planned r ≡ refused 12 p) ↔ ((¬ (length table < table_length)) × ClosedEntryAt j p)
  plan_twelve_exactly =
      both (plan_refused_exactly N N' records records' order order' dwell table table' r promise 12 p)
      (twelve_planning j p (length table < table_length))

  pub plan_thirteen_exactly :
      (said_planned r ≡ refused 13 p) ↔ ((¬ (length table < table_length)) × ClosedEndAt j p)
  plan_thirteen_exactly =
      both (plan_refused_exactly N N' records records' order order' dwell table table' r promise 13 p)
      (thirteen_planning j p (length table < table_length))

module _ (j : Numbers) (before after : Lent) (r : Result ℕ Refusal) (promise : Planning j before after (said_planned r))
    (p : ℕ) where
  pub numbers_twelve_exactly : (said_planned r ≡ refused 12 p) ↔ ((¬ ShortOf before) × ClosedEntryAt j p)
  numbers_twelve_exactly =
      both (planning_refused_exactly j before after (said_planned r) promise 12 p)
      (twelve_planning j p (ShortOf before))

  pub numbers_thirteen_exactly : (said_planned r ≡ refused 13 p) ↔ ((¬ ShortOf before) × ClosedEndAt j p)
  numbers_thirteen_exactly =
      both (planning_refused_exactly j before after (said_planned r) promise 13 p)
      (thirteen_planning j p (ShortOf before))

module _ (j : Numbers) (out out' : List ℕ) (r : Result ℕ Refusal) (promise : Writing j out out' (said_written r)) (p : ℕ) where
  pub write_twelve_exactly : (said_written r ≡ refused 12 p) ↔ ((¬ (length out < text_room)) × ClosedEntryAt j p)
  write_twelve_exactly =
      both (write_refused_exactly j out out' r promise 12 p) (twelve_writing j p (length out < text_room))

  pub write_thirteen_exactly : (said_written r ≡ refused 13 p) ↔ ((¬ (length out < text_room)) × ClosedEndAt j p)
  write_thirteen_exactly =
      both (write_refused_exactly j out out' r promise 13 p) (thirteen_writing j p (length out < text_room))
