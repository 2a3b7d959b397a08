-- The checks before 8 have found no fault, so the distance walk serves the goal and fills the row, whose place for
-- the start tells whether there is a walk.
use Rattle.std.proofs.Common.{arith}
use Rattle.std.proofs.lemmas.Result.{err_from_is_err_and}
use Rattle.hall.proofs.Compose.{first_before}
use Rattle.path.proofs.Reached.{row_filled, start_inside, walk_missing, walk_there}
use Rattle.path.proofs.check_reached.Goals as goal

pub returns-in_err-check_move : goal.returns-in_err-check_move
returns-in_err-check_move c =
    let p = err_from_is_err_and c.from_residual.result c.from_residual.ensures.1 in
    rw (p.1, p.2) (first_before _ c.in_err-check_move.ensures)

pub bounds-row-ends : goal.bounds-row-ends
bounds-row-ends c =
    let sound = c.in_ok-check_move.ensures in
    let filled = row_filled _ _ _ sound c.requires c.distances.ensures in
    omega (arith, start_inside _ _ _ sound, filled.size, c.requires)

pub returns-then-row-ends : goal.returns-then-row-ends
returns-then-row-ends c =
    let sound = c.in_ok-check_move.ensures in
    rw c.new.ensures (walk_missing _ _ _ sound (row_filled _ _ _ sound c.requires c.distances.ensures) c.if-row-ends.true)

pub returns : goal.returns
returns c =
    let sound = c.in_ok-check_move.ensures in
    walk_there _ _ _ sound (row_filled _ _ _ sound c.requires c.distances.ensures) c.requires c.if-row-ends.false
