-- The four lists of a job that have entries, and what is asked of each entry (rule 8.22). One definition goes
-- by the kind of list: of the lanes `each_in` is hall's `each_lane`, of the closed nodes `each_closed`, of the
-- moves `each_move` and of the places of the order `each_order_place`, each by definition. And what one loop
-- answers that serves all four.
--     checks_in    the checks of an entry of the list: 3 of a lane, 12 of a closed node, 4, 5 and 13 of a
--                 move, 7 of a place of the order. Only those of moves look at the closed nodes, and only
--                 those of places at how many carriers there are
--     places_in    how many entries the list has: a lane and a move have two numbers, and an odd last number
--                 is no entry
--     each_in      these checks at each entry of the list, one stage
--     FirstRefusal    what a loop answers that asks a check at so many places, one after the other, where
--                 `Answer` tells what the check may answer at a place: none refuses, or the first refusal
use Rattle.std.specs.Prelude.{List, ℕ, ◌<◌, length, Result, Ok, Err}
use Rattle.hall.specs.declared.Refusal.{Refusal}
use Rattle.hall.specs.Floor.{lanes_in}
use Rattle.hall.specs.Job.{move_count}
use Rattle.hall.specs.Stages.{Stage, at_each}
use Rattle.hall.specs.Questions.{lane_checks, closed_checks, move_checks, order_checks}
use Rattle.network.specs.declared.entries.Entries.{Entries}
use Rattle.network.specs.declared.entries.Entries.TheVariants.{Lanes, Closed, Moves, Places}

abbrev pub checks_in : Entries → (nodes carriers : ℕ) (closed list : List ℕ) → Stage
checks_in Lanes nodes carriers closed list = lane_checks nodes list
checks_in Closed nodes carriers closed list = closed_checks nodes list
checks_in Moves nodes carriers closed list = move_checks nodes closed list
checks_in Places nodes carriers closed list = order_checks carriers list

abbrev pub places_in : Entries → List ℕ → ℕ
places_in Lanes list = lanes_in list
places_in Closed list = length list
places_in Moves list = move_count list
places_in Places list = length list

abbrev pub each_in : Entries → (nodes carriers : ℕ) (closed list : List ℕ) → Stage
each_in which nodes carriers closed list =
    at_each (places_in which list) (checks_in which nodes carriers closed list)

pub data FirstRefusal (Answer : ℕ → Result Unit Refusal → Type 0) (count : ℕ) : Result Unit Refusal → Type 0 where
  all_passed : ((k : ℕ) → k < count → Answer k (Ok tt)) → FirstRefusal Answer count (Ok tt)
  refused_at : {r : Refusal} (k : ℕ) → k < count → Answer k (Err r) → ((j : ℕ) → j < k → Answer j (Ok tt)) →
      FirstRefusal Answer count (Err r)
