-- `admission::checks::check_walk` meets its contract: the walks from the start and from the goal fill the
-- rows, and the place of the goal tells whether there is a walk. Assumes nothing.
use Rattle.std.proofs.Common.{◌≡◌, Bool, List, ℕ, ◌≤◌, ◌<◌, length, refl, arith}
use Rattle.hall.specs.Limits.{node_limit}
use Rattle.hall.specs.Floor.{Network, network_in}
use Rattle.hall.proofs.Walks.{true_distance, marked_none}
use Rattle.hall.proofs.Compose.{not_both, first_after, none_append, none_at_all}
use Rattle.hall.proofs.Places.{asked_here, asked_clear}
use Rattle.walk.specs.Row.{RowFilled, Rowed}
use Rattle.walk.proofs.WalkRow.{rowed_served}
use Rattle.network.proofs.SoundMove.{move_sound}
use Rattle.admission.proofs.checks.check_walk.Goals as goal

-- a walk from a node over a row that has a place for every node fills the row
fills : (N : Network) (source : ℕ) {row left : List ℕ} {r : Bool} → N.nodes ≤ node_limit → source < N.nodes → length row ≡ node_limit
    → Rowed N source row left r → RowFilled N source row left
fills N source few numbered wide e = (rowed_served (record { few = few; numbered = numbered; wide = omega arith }) e).1

pub bounds-rows-ends : goal.bounds-rows-ends
bounds-rows-ends c =
    let a = c.args in
    let told = move_sound (network_in a.network.now) a.ends.start a.ends.goal c.requires in
    omega (arith, told.few_nodes, told.goal_open.numbered)

pub returns-then-distance : goal.returns-then-distance
returns-then-distance c =
    let a = c.args in
    let N = network_in a.network.now in
    let told = move_sound N a.ends.start a.ends.goal c.requires in
    let row = fills N a.ends.start told.few_nodes told.start_open.numbered (omega arith) c.distances.ensures in
    let none = marked_none (row.holds a.ends.goal told.goal_open.numbered) c.if-distance.true in
    record {
      judged = rw c.new.ensures (first_after c.requires (asked_here none));
      rows = λ e. absurd (not_both refl e);
    }

pub returns : goal.returns
returns c =
    let a = c.args in
    let N = network_in a.network.now in
    let told = move_sound N a.ends.start a.ends.goal c.requires in
    let row = fills N a.ends.start told.few_nodes told.start_open.numbered (omega arith) c.distances.ensures in
    let back = fills N a.ends.goal told.few_nodes told.goal_open.numbered (omega arith) c.distances-2.ensures in
    let own = true_distance (row.holds a.ends.goal told.goal_open.numbered) c.if-distance.false in
    record {
      judged = none_append c.requires (asked_clear (λ none. none _ own.walk) none_at_all);
      rows = λ e. record { of_start = row.holds; of_goal = back.holds };
    }
