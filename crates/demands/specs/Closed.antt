-- When a job is refused for its closed nodes, said of its lists (rules 8.12 and 8.13).
--     before_closed     what is asked before the closed nodes: the five counts, the dwell and the lanes
--     before_moves      what is asked before the moves: the same, and the closed nodes
--     ClosedEntryAt     12 at place p: nothing holds that is asked before; entry p of the closed nodes is no
--                       node or does not exceed its predecessor, and no entry before it is at fault
--     ClosedEndAt       13 at place p: nothing holds that is asked before; the ends of move p are nodes and
--                       differ, and one of them is closed; no move before it has 4, 5 or 13
use Rattle.std.specs.Prelude.{◌≢◌, [], ◌∷◌, ◌++◌, ℕ, ◌<◌, length}
use Rattle.hall.specs.Job.{Numbers, carriers, start, goal}
use Rattle.hall.specs.Stages.{Question, ClearAt, None}
use Rattle.hall.specs.Refusals.{ClosedFault, NoNode-at, ClosedEnd-at}
use Rattle.hall.specs.Questions.{move_checks, each_lane, each_closed, counts}

abbrev pub before_closed : Numbers → Question
before_closed j =
    counts j.network.nodes (length j.network.lanes) (length j.network.closed)
    (carriers j) (length j.order) j.dwell
    ++ (each_lane j.network.nodes j.network.lanes ∷ [])

abbrev pub before_moves : Numbers → Question
before_moves j = before_closed j ++ (each_closed j.network.nodes j.network.closed ∷ [])

pub record ClosedEntryAt (j : Numbers) (p : ℕ) : Type 0 where
  pub none_before : None (before_closed j)
  pub is_entry : p < length j.network.closed
  pub at_fault : ClosedFault j.network.nodes j.network.closed p
  pub lowest : (k : ℕ) → k < p → ¬ ClosedFault j.network.nodes j.network.closed k

pub record ClosedEndAt (j : Numbers) (p : ℕ) : Type 0 where
  pub none_before : None (before_moves j)
  pub is_move : p < carriers j
  pub numbered : ¬ NoNode-at j.network.nodes (start j p) (goal j p)
  pub ends_differ : start j p ≢ goal j p
  pub closed_end : ClosedEnd-at j.network.closed (start j p) (goal j p)
  pub lowest : (i : ℕ) → i < p → ClearAt (move_checks j.network.nodes j.network.closed j.moves) i
