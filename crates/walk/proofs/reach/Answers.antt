-- Marks and rounds leave the row before the first sweep, each sweep goes on from the one before it, and
-- after the last the row is filled, once what is not reached has the mark for "no walk". The row is as long as
-- there are nodes all the time.
use Rattle.std.proofs.Common.{ℕ, ◌≡◌, length, replicate, arith}
use Rattle.std.proofs.lemmas.List.{length-replicate}
use Rattle.hall.specs.Floor.{Network, network_in}
use Rattle.walk.specs.Sweep.{unreached_mark, Shut, OnlyFell}
use Rattle.walk.proofs.WalkBegun.{Begun, begun_open, begun_closed, Unswept, unswept_spread}
use Rattle.walk.proofs.WalkReach.{walking_first, walking_swept, walking_done}
use Rattle.walk.proofs.reach.Goals as goal
use Rattle.walk.proofs.reach.Goals.{then-row-place, else-row-place}

pub loop-todo-init : goal.loop-todo-init
loop-todo-init c =
    let network : Network = network_in c.args.network.now in
    let exact : length c.args.row.now ≡ network.nodes = c.requires.1 in
    let marked = c.fill.ensures.after (λ y e. e) in
    let shut : Shut network.nodes network.closed (replicate network.nodes unreached_mark) c.shut.new.row = rw (marked, length-replicate {A = ℕ} (length c.args.row.now) unreached_mark, exact) at c.shut.ensures in
    let long : length c.if-row-place.row ≡ network.nodes = omega arith in
    let begun : Begun network c.args.source c.args.row.now c.if-row-place.row = elim c.if-row-place.branch [
      | then-row-place w ↦ rw w.row-is (begun_open network c.args.row.now exact shut c.args.source c.requires.0.numbered w.if-row-place.true)
      | else-row-place w ↦ rw w.row-is (begun_closed network c.args.row.now exact shut c.args.source w.if-row-place.false)
    ] in
    let only : OnlyFell network.nodes network.lanes c.if-row-place.row c.spread_near.new.row = rw (long, c.of-lanes.ensures) at c.spread_near.ensures in
    let unswept : Unswept network c.args.source c.args.row.now c.spread_near.new.row = unswept_spread begun only in
    (walking_first c.requires.0 unswept, unswept)

pub loop-todo-preserved : goal.loop-todo-preserved
loop-todo-preserved c =
    let long : length c.loop-todo.row ≡ c.args.network.now.nodes = omega (arith, c.requires.1) in
    (walking_swept c.loop-todo.invariant.0 (rw (long, c.of-lanes.ensures) at c.sweep-todo.ensures) (omega arith), c.loop-todo.invariant.1)

pub returns : goal.returns
returns c =
    let loop = c.loop-todo in
    let long : length loop.row ≡ c.args.network.now.nodes = omega (arith, c.requires.1) in
    (walking_done c.requires.0 loop.invariant.0 (omega arith) (rw long at c.settle.ensures) loop.invariant.1, loop.invariant.0.few)
