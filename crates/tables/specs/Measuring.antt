-- The distance table of a job with 8 and the carriers' own distances (rules 2.6, 8.8, 9.2 and 9.8).
--     said_tabled      what the answer of measuring says: every carrier has a walk, or 8 at the lowest carrier number that
--                     has none; and nothing where the input is none of those served, for which the rules have
--                     no number
--     MeasureServed   what is measured: what is served with a table, and room for as many distances as a job
--                     can have
--     Measured        no carrier is without a walk (nothing of 8 holds); the table holds the true distances,
--                     and the list of distances the carriers' own
--     LostLeft        the refusal is the first of 8: this carrier has no walk, and each with a lower number
--                     has one. The least lengths of the table and of the distances are zero
--     BothUntouched   what is not served leaves both lists as they came
--     Measuring       the promise of measuring: one of the three, by what is said
--     OwnCopied       what a step promises: the own distances of k carriers stand in the list, and nothing
--                     else changed. No public promise cites it
use Rattle.std.specs.Prelude.{◌≡◌, List, [], ◌∷◌, ℕ, ◌≤◌, ◌<◌, length, get_or, Result, Ok, Err}
use Rattle.std.proofs.Math.Option.{Option, some, none}
use Rattle.hall.specs.declared.Fault.TheVariants.{Unreachable}
use Rattle.hall.specs.Numbers.{number_of}
use Rattle.hall.specs.Limits.{carrier_limit, table_length}
use Rattle.hall.specs.Floor.{Network}
use Rattle.hall.specs.Job.{move_count}
use Rattle.hall.specs.Said.{Said, accepted, refused}
use Rattle.hall.specs.Stages.{First, None}
use Rattle.hall.specs.Questions.{each_walk}
use Rattle.hall.specs.Left.{zeroed, RowLeft}
use Rattle.hall.specs.Ticks.{own}
use Rattle.hall.specs.Plan.{tables_in}
use Rattle.tables.specs.declared.Unmeasured.{Unmeasured}
use Rattle.tables.specs.declared.Unmeasured.TheVariants.{Lost, Unserved}
use Rattle.tables.specs.Filling.{TableServed, TableFilled}

abbrev pub said_tabled : Result Unit Unmeasured → Option (Said Unit)
said_tabled (Ok u) = some (accepted tt)
said_tabled (Err (Lost c)) = some (refused (number_of Unreachable) c.0)
said_tabled (Err Unserved) = none

pub record MeasureServed (N : Network) (moves table distances : List ℕ) : Type 0 where
  pub table_served : TableServed N moves (length table)
  pub enough_distances : carrier_limit ≤ length distances

pub record Measured (N : Network) (moves table table' distances distances' : List ℕ) : Type 0 where
  pub served : MeasureServed N moves table distances
  pub all_walk : None (each_walk N moves ∷ [])
  pub table_filled : TableFilled N moves table table'
  pub own_distances : (i : ℕ) → i < move_count moves → get_or distances' i 0 ≡ own (tables_in table') i
  pub distances_left : RowLeft (move_count moves) distances distances'

pub record LostLeft (N : Network) (moves table table' distances distances' : List ℕ) (n p : ℕ) : Type 0 where
  pub served : MeasureServed N moves table distances
  pub first : First (each_walk N moves ∷ []) n p
  pub table_left : table' ≡ zeroed table_length table
  pub distances_left : distances' ≡ zeroed carrier_limit distances

pub record BothUntouched (N : Network) (moves table table' distances distances' : List ℕ) : Type 0 where
  pub unserved : ¬ MeasureServed N moves table distances
  pub table_kept : table' ≡ table
  pub distances_kept : distances' ≡ distances

abbrev pub Measuring : (N : Network) (moves table table' distances distances' : List ℕ) →
    Option (Said Unit) → Type 0
Measuring N moves t t' d d' (some (accepted u)) = Measured N moves t t' d d'
Measuring N moves t t' d d' (some (refused n p)) = LostLeft N moves t t' d d' n p
Measuring N moves t t' d d' none = BothUntouched N moves t t' d d'

-- ---- a step

pub record OwnCopied (table : List ℕ) (k : ℕ) (distances distances' : List ℕ) : Type 0 where
  pub as_many : length distances' ≡ length distances
  pub copied : (i : ℕ) → i < k → get_or distances' i 0 ≡ own (tables_in table) i
  pub others : (i : ℕ) → k ≤ i → get_or distances' i 0 ≡ get_or distances i 0
