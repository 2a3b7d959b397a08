-- A job whose checks pass up to its order is served with a table. In a filled table the mark as a carrier's
-- own distance says that it has no walk, and any other number that it has one: the lowest marked carrier is
-- the first of 8, and where none is marked nothing of 8 holds. Assumes nothing.
--     moves_served                  a job without the faults that are asked before its order's entries is
--                                   served with a table
--     fill_worked, fill_declined    what `fill` answers, where its answer is turned round
--     filled_looked                 a filled table has its three blocks, and no more carriers than a job can
--                                   have
--     all_unmarked                  what is looked at and has nothing lost has no mark
--     lost_first                    its lowest marked carrier is the first of 8
--     reached_walks                 where none is marked, nothing of 8 holds
--     measured_owns                 where nothing of 8 holds, no own distance is the mark
--     measured_small                so each is at most 1,023
--     is_lost, is_measured          the outcomes of measuring
--     says_all, says_lost           what its answer tells
--     served_measured               what is served is not answered as unserved
use mathlib.Core.Path.{◌≡◌, refl, ◌∙◌, ap}
use mathlib.Core.Logic.{inl, inr, ◌≢◌}
use mathlib.Core.Bool.{Bool, true, false, not}
use mathlib.Core.List.{List, [], ◌∷◌}
use Prim.Native.Nat.{ℕ, ◌≤◌, ◌<◌}
use native.Mathlib.Omega.{arith}
use lib.ListN.{length, get_or}
use Rattle.std.specs.Prelude.{Option, Some, Result, Ok, Err}
use Rattle.std.specs.Prelude as std
use Rattle.hall.specs.declared.Carrier.{Carrier}
use Rattle.hall.specs.Limits.{carrier_limit, table_length, no_walk_mark, distance_limit}
use Rattle.hall.specs.Floor.{Network, floor, DistanceIs}
use Rattle.hall.specs.Job.{Numbers, move_count, start_in, goal_in}
use Rattle.hall.specs.Stages.{here, First, None}
use Rattle.hall.specs.Questions.{walk_checks, each_walk, moves_question}
use Rattle.hall.specs.Left.{zeroed}
use Rattle.hall.specs.Ticks.{own}
use Rattle.hall.specs.Plan.{tables_in}
use Rattle.hall.proofs.Answers.{affirmed_not, denied_not}
use Rattle.hall.proofs.Walks.{marked_none, unmarked_walk, distance_small}
use Rattle.hall.proofs.Compose.{first_here, none_more, none_at_all}
use Rattle.hall.proofs.Places.{each_first, each_none, none_each}
use Rattle.hall.proofs.Sound.{MovesSound, moves_sound}
use Rattle.hall.proofs.Left.{zeroed_same, zeroed_length, row_changed}
use Rattle.tables.specs.declared.Unmeasured.{Unmeasured}
use Rattle.tables.specs.declared.Unmeasured.TheVariants.{Lost, Unserved}
use Rattle.tables.specs.Filling.{TableServed, TableFilled, TableUntouched, Filling}
use Rattle.tables.specs.Filling.{FirstLost, NoneLost, looked, unserved, said_reach, Reaching}
use Rattle.tables.specs.Measuring.{MeasureServed, Measured, LostLeft, BothUntouched, said_tabled, Measuring}
use Rattle.tables.specs.Measuring.{OwnCopied}
use Rattle.tables.proofs.Blocks.{end_below}

pub moves_served : (j : Numbers) → None (moves_question j) → {room : ℕ} → table_length ≤ room →
    TableServed j.network j.moves room
moves_served j none whole = record {
  few_nodes = sound.few_nodes;
  few_carriers = sound.few_carriers;
  whole_table = whole;
  numbered = end_below j.network sound.ends_open;
}
  where
    sound : MovesSound j
    sound = moves_sound j none

module _ {N : Network} {moves table table' : List ℕ} where
  pub fill_worked : (b : Bool) → not b ≡ false → Filling N moves table table' b → TableFilled N moves table table'
  fill_worked true e f = f
  fill_worked false e f = absurd (affirmed_not false {A = ⊥} e (λ x. x))

  pub fill_declined : (b : Bool) → not b ≡ true → Filling N moves table table' b → TableUntouched N moves table table'
  fill_declined true e f = absurd (denied_not true {A = Unit} e tt tt)
  fill_declined false e f = f

module _ {N : Network} {moves table table' : List ℕ} (f : TableFilled N moves table table') where
  pub filled_looked : (table_length ≤ length table') × (move_count moves ≤ carrier_limit)
  filled_looked = (omega (arith, f.table_left.size, f.served.whole_table), f.served.few_carriers)

  own_is : (i : ℕ) → i < move_count moves →
      DistanceIs (floor N) (start_in moves i) (goal_in moves i) (own (tables_in table') i)
  own_is i h = f.true_distances.start_goal i i h h

  lost_first : {c : ℕ} → FirstLost table' (move_count moves) c → First (each_walk N moves ∷ []) 8 c
  lost_first {c} lost =
      first_here
      (each_first (walk_checks N moves) lost.is_carrier
      (record { clear = λ i l. (unmarked_walk (own_is i (omega (arith, lost.is_carrier))) (lost.none_lower i l), tt) })
      (here (refl, marked_none (own_is c lost.is_carrier) lost.marked)))

  all_unmarked : NoneLost table' (move_count moves) → (i : ℕ) → i < move_count moves → own (tables_in table') i ≢ no_walk_mark
  all_unmarked (looked whole few none) i l = none i l
  all_unmarked (unserved (inl h)) i l = absurd (let x : ⊥ = omega (arith, filled_looked) in x)
  all_unmarked (unserved (inr h)) i l = absurd (let x : ⊥ = omega (arith, filled_looked) in x)

  reached_walks : NoneLost table' (move_count moves) → None (each_walk N moves ∷ [])
  reached_walks all =
      none_more
      (each_none (walk_checks N moves) (record { clear = λ i l. (unmarked_walk (own_is i l) (all_unmarked all i l), tt) }))
      none_at_all

  pub measured_owns : None (each_walk N moves ∷ []) → (i : ℕ) → i < move_count moves → own (tables_in table') i ≢ no_walk_mark
  measured_owns walks i l e = ((none_each (walk_checks N moves) walks).0.clear i l).0 (marked_none (own_is i l) e)

  pub measured_small : None (each_walk N moves ∷ []) → (i : ℕ) → i < move_count moves → own (tables_in table') i ≤ distance_limit
  measured_small walks i l = distance_small (own_is i l) (measured_owns walks i l)

  -- ---- the outcomes of measuring, by what the search for the lowest says

  module _ (distances : List ℕ) (enough : carrier_limit ≤ length distances) where
    pub is_lost : {r : Option Carrier} {c : Carrier} {t d : List ℕ} → r ≡ Some c →
        Reaching table' (move_count moves) (said_reach r) →
        t ≡ zeroed table_length table' → d ≡ zeroed carrier_limit distances →
        LostLeft N moves table t distances d 8 c.0
    is_lost {r} {c} told said e z = record {
      served = record { table_served = f.served; enough_distances = enough };
      first =
          let lost : Reaching table' (move_count moves) (said_reach (Some c)) = rw told at said in
          lost_first lost.1;
      table_left = e ∙ zeroed_same table_length table table' f.table_left.size f.table_left.beyond;
      distances_left = z;
    }

    pub is_measured : {r : Option Carrier} {z d : List ℕ} → r ≡ std.None → Reaching table' (move_count moves) (said_reach r) →
        z ≡ zeroed carrier_limit distances → OwnCopied table' (move_count moves) z d →
        Measured N moves table table' distances d
    is_measured told said e copied = record {
      served = record { table_served = f.served; enough_distances = enough };
      all_walk = reached_walks (rw told at said);
      table_filled = f;
      own_distances = copied.copied;
      distances_left =
          row_changed distances f.served.few_carriers (copied.as_many ∙ ap length e ∙ zeroed_length carrier_limit distances)
          (λ i h. copied.others i h ∙ ap (λ (l : List ℕ). get_or l i 0) e);
    }

-- ---- what the answer of measuring tells

module _ {N : Network} {moves table table' distances distances' : List ℕ} {r : Result Unit Unmeasured} where
  pub says_all : r ≡ Ok tt → Measuring N moves table table' distances distances' (said_tabled r) →
      Measured N moves table table' distances distances'
  says_all e a = rw e at a

  pub says_lost : {c : Carrier} → r ≡ Err (Lost c) → Measuring N moves table table' distances distances' (said_tabled r) →
      LostLeft N moves table table' distances distances' 8 c.0
  says_lost e a = rw e at a

  says_unserved : r ≡ Err Unserved → Measuring N moves table table' distances distances' (said_tabled r) →
      BothUntouched N moves table table' distances distances'
  says_unserved e a = rw e at a

pub served_measured : {N : Network} {moves table distances : List ℕ} → MeasureServed N moves table distances →
    (table' distances' : List ℕ) {r : Result Unit Unmeasured} → r ≡ Err Unserved →
    Measuring N moves table table' distances distances' (said_tabled r) → ⊥
served_measured served table' distances' e a = (says_unserved e a).unserved served
