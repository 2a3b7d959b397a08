-- Before the goal a lane is left, so the next place is in the list and the next node is one lane nearer. What is
-- laid at the goal is the house path, and the list past it is as it came.
use Rattle.std.proofs.Common.{arith}
use Rattle.path.proofs.Laying.{laying_first, laying_next, laying_done, laid_from}
use Rattle.path.proofs.Laying.{some_left, next_place, next_there}
use Rattle.path.proofs.lay.Goals as goal

pub loop-u-init : goal.loop-u-init
loop-u-init c = λ closed down. laying_first c.args.path.now down c.requires.2

pub overflow_sub-left : goal.overflow_sub-left
overflow_sub-left c = some_left (c.loop-u.invariant c.requires.0 c.requires.1) c.loop-u-test.true

pub bounds-path-at : goal.bounds-path-at
bounds-path-at c = next_place (c.loop-u.invariant c.requires.0 c.requires.1) c.loop-u-test.true

pub unwrap-u-requires : goal.unwrap-u-requires
unwrap-u-requires c =
    let laying = c.loop-u.invariant c.requires.0 c.requires.1 in
    let left = some_left laying c.loop-u-test.true in
    next_there laying c.next_node.result c.requires.1 (omega arith) c.next_node.ensures

pub loop-u-smaller : goal.loop-u-smaller
loop-u-smaller c =
    omega (arith, some_left (c.loop-u.invariant c.requires.0 c.requires.1) c.loop-u-test.true)

pub loop-u-preserved : goal.loop-u-preserved
loop-u-preserved c =
    let left = some_left (c.loop-u.invariant c.requires.0 c.requires.1) c.loop-u-test.true in
    λ closed down.
    laying_next (c.loop-u.invariant closed down) down (omega arith) (rw c.unwrap-u.ensures at c.next_node.ensures)

pub returns : goal.returns
returns c =
    λ closed down. laid_from c.args.path.now (laying_done (c.loop-u.invariant closed down) c.loop-u-test.false)
