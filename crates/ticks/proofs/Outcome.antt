-- What is not served is untouched. When every place is done, the promise holds: the ticks are the start ticks
-- by the order, and a number that is no carrier's stands at no place, so that its tick is as it came. What is
-- given by the true distances of a job is its plan (rules 5.1 to 5.5). Assumes nothing.
use mathlib.Core.Path.{◌≡◌, refl}
use mathlib.Core.Logic.{◌≢◌}
use mathlib.Core.List.{List}
use Prim.Native.Nat.{ℕ, ◌<◌}
use native.Mathlib.Omega.{arith}
use lib.ListN.{length, get_or}
use Rattle.hall.specs.Limits.{no_walk_mark}
use Rattle.hall.specs.Floor.{floor}
use Rattle.hall.specs.Job.{Numbers, carriers, start, goal}
use Rattle.hall.specs.Ticks.{own, cost_of}
use Rattle.hall.specs.Plan.{tables_in, TablesOf, Plan}
use Rattle.std.specs.Prelude.{Option, Some, None}
use Rattle.ticks.specs.Timing.{TicksServed, Given, TicksUntouched, said_timed, Timing}
use Rattle.ticks.specs.Steps.{PlacedTo}
use Rattle.ticks.proofs.Order.{entry_below}

pub left_untouched : {table order ticks : List ℕ} {dwell : ℕ} →
    ¬ TicksServed table order dwell (length ticks) → TicksUntouched table order dwell ticks ticks
left_untouched n = record { unserved = n; kept = refl }

pub placed_given : (table order : List ℕ) (dwell : ℕ) (ticks ticks' : List ℕ) (cost : ℕ) →
    TicksServed table order dwell (length ticks) →
    PlacedTo dwell table order ticks ticks' (length order) →
    cost ≡ cost_of (tables_in table) (λ i. get_or ticks' i 0) (length order) →
    Given table order dwell ticks ticks' cost
placed_given table order dwell ticks ticks' cost s placed e = record {
  served = s;
  start_ticks = record { smallest = placed.smallest };
  cost_is = e;
  as_many = placed.as_many;
  others = λ i h. placed.others i (λ p l n. omega (arith, n, entry_below s.listed p l));
}

-- the start ticks and the cost of a job, given by its table of distances, are its plan
pub given_plan : (j : Numbers) (table ticks ticks' : List ℕ) (cost : ℕ) →
    carriers j ≡ length j.order →
    Given table j.order j.dwell ticks ticks' cost →
    TablesOf (floor j.network) (carriers j) (start j) (goal j) (tables_in table) →
    ((i : ℕ) → i < carriers j → own (tables_in table) i ≢ no_walk_mark) →
    Plan j (tables_in table) (λ i. get_or ticks' i 0) cost
given_plan j table ticks ticks' cost e g distances reached = record {
  true_distances = distances;
  reached = reached;
  ticks = g.start_ticks;
  cost_is = rw e g.cost_is;
}

-- ---- what an answer tells

pub is_given : {table order ticks ticks' : List ℕ} {dwell : ℕ} {r : Option ℕ} {cost : ℕ} → r ≡ Some cost →
    Timing table order dwell ticks ticks' (said_timed r) → Given table order dwell ticks ticks' cost
is_given e a = rw e at a

pub never_untimed : (table order : List ℕ) (dwell : ℕ) (ticks ticks' : List ℕ) {r : Option ℕ} →
    TicksServed table order dwell (length ticks) → r ≡ None →
    Timing table order dwell ticks ticks' (said_timed r) → ⊥
never_untimed table order dwell ticks ticks' s e a =
    let u : TicksUntouched table order dwell ticks ticks' = rw e at a in u.unserved s
