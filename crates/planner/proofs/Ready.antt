-- From a received job to its plan. A received job is measured: 8, at the lowest carrier without a walk, is
-- then the first fault of planning; or the true distances are there. A job that is received and measured is
-- ready: any search for start ticks may take its lists, and with its start ticks it is planned. So a planner
-- is these laws and a search. Assumes nothing.
--     measure_served    a received job is served with a table and its distances
--     ready_lost        8 refuses it
--     ready_served      it is served with start ticks
--     ready_owns        the own distances of its carriers are at most 1,023
--     ready_planned     with its start ticks it is planned
use mathlib.Core.Path.{◌≡◌, sym, ◌∙◌, ap, subst}
use mathlib.Core.List.{List}
use Prim.Native.Nat.{ℕ, ◌≤◌, ◌<◌}
use lib.ListN.{length, get_or}
use Rattle.hall.specs.Limits.{carrier_limit, table_length, distance_limit}
use Rattle.hall.specs.Job.{Numbers, carriers}
use Rattle.hall.specs.Stages.{None}
use Rattle.hall.specs.Questions.{checks_question}
use Rattle.hall.specs.Left.{zeroed, RowLeft}
use Rattle.hall.specs.Ticks.{own}
use Rattle.hall.specs.Plan.{tables_in}
use Rattle.hall.proofs.Compose.{none_append, first_after}
use Rattle.hall.proofs.Places.{none_asked}
use Rattle.hall.proofs.Sound.{not_above, carriers_limit, order_length}
use Rattle.hall.proofs.Left.{zeroed_length, zeroed_twice, row_over, row_changed}
use Rattle.tables.specs.Measuring.{MeasureServed, Measured, LostLeft}
use Rattle.tables.proofs.Blocks.{over_zeroed}
use Rattle.tables.proofs.Measuring.{filled_looked, measured_owns, measured_small}
use Rattle.ticks.specs.Timing.{TicksServed, Given}
use Rattle.ticks.proofs.Order.{job_served}
use Rattle.ticks.proofs.Outcome.{given_plan}
use Rattle.planner.specs.Planning.{Lent, lent, ShortOf, table_is_short, short_distances, short_ticks}
use Rattle.planner.specs.Planning.{NumbersPlanned, NumbersRefused}
use Rattle.planner.specs.Receiving.{Received}
use Rattle.planner.proofs.Outcome.{filling_served}

module _ (j : Numbers) (before mid : Lent) (received : Received j before mid) where
  roomy : ¬ ShortOf before
  roomy = (none_asked received.no_fault).0

  sound : None (checks_question j)
  sound = (none_asked received.no_fault).1

  table_is : mid.table ≡ zeroed table_length before.table
  table_is = ap (λ (l : Lent). l.table) received.lists_left

  distances_are : mid.distances ≡ zeroed carrier_limit before.distances
  distances_are = ap (λ (l : Lent). l.distances) received.lists_left

  ticks_are : mid.ticks ≡ zeroed carrier_limit before.ticks
  ticks_are = ap (λ (l : Lent). l.ticks) received.lists_left

  -- a list that is as long as it came, zeroed first
  kept_length : (n : ℕ) (l : List ℕ) {m : List ℕ} → m ≡ zeroed n l → ¬ (length l < n) → n ≤ length m
  kept_length n l e h = rw (ap length e ∙ zeroed_length n l) (not_above (length l) n h)

  pub measure_served : MeasureServed j.network j.moves mid.table mid.distances
  measure_served = record {
    table_served = filling_served j sound (kept_length table_length before.table table_is (λ h. roomy (table_is_short h)));
    enough_distances = kept_length carrier_limit before.distances distances_are (λ h. roomy (short_distances h));
  }

  pub ready_lost : {table' distances' : List ℕ} {c : ℕ} →
      LostLeft j.network j.moves mid.table table' mid.distances distances' 8 c →
      NumbersRefused j before (lent table' distances' mid.ticks) 8 c
  ready_lost lost = record {
    first = first_after received.no_fault lost.first;
    table_left = lost.table_left ∙ ap (zeroed table_length) table_is ∙ zeroed_twice table_length before.table;
    distances_left =
        lost.distances_left ∙ ap (zeroed carrier_limit) distances_are ∙ zeroed_twice carrier_limit before.distances;
    ticks_left = ticks_are;
  }

  module _ {table' distances' : List ℕ}
      (ready : Measured j.network j.moves mid.table table' mid.distances distances') where
    pub ready_served : TicksServed table' j.order j.dwell (length mid.ticks)
    ready_served =
        job_served j sound (filled_looked ready.table_filled).0
        (kept_length carrier_limit before.ticks ticks_are (λ h. roomy (short_ticks h)))

    pub ready_owns : (i : ℕ) → i < carriers j → own (tables_in table') i ≤ distance_limit
    ready_owns = measured_small ready.table_filled ready.all_walk

    pub ready_planned : {ticks' : List ℕ} {cost : ℕ} →
        Given table' j.order j.dwell mid.ticks ticks' cost →
        NumbersPlanned j before (lent table' distances' ticks') cost
    ready_planned {ticks'} {cost} given = record {
      no_fault = none_append received.no_fault ready.all_walk;
      plan =
          given_plan j table' mid.ticks ticks' cost (sym same) given ready.table_filled.true_distances
          (measured_owns ready.table_filled ready.all_walk);
      own_distances = ready.own_distances;
      table_left = (over_zeroed before.table table_is ready.table_filled).table_left;
      distances_left =
          row_over before.distances
          (subst (λ (l : List ℕ). RowLeft (carriers j) l distances') distances_are ready.distances_left);
      ticks_left =
          row_changed before.ticks (carriers_limit j sound)
          (given.as_many ∙ ap length ticks_are ∙ zeroed_length carrier_limit before.ticks)
          (λ i h. given.others i (rw same h) ∙ ap (λ (l : List ℕ). get_or l i 0) ticks_are);
    }
      where
        same : length j.order ≡ carriers j
        same = order_length j sound
