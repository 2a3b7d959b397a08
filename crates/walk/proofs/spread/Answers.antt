-- Labels only fall at a look at a lane, at most one of them; a lane whose labels have another sum changes
-- nothing.
use Rattle.std.proofs.Common.{◌≤◌, length, arith}
use Rattle.walk.proofs.WalkFalls.{only_fell_then, only_fell_look}
use Rattle.walk.proofs.spread.Goals as goal
use Rattle.walk.proofs.spread.Goals.{then-x-y+then-look, else-x-y, else-x-y-via-then-x-y+else-look, else-x-y-via-else-x-y}

pub loop-k-preserved : goal.loop-k-preserved
loop-k-preserved c =
    let loop = c.loop-k in
    let long = loop.auto.row in
    let wide : length c.args.row.now ≤ length loop.row = omega arith in
    elim c.if-x-y.branch [
      | then-x-y+then-look w ↦ (rw w.row-is (only_fell_then loop.invariant.0 (only_fell_look wide loop.k (omega arith) (rw long at w.look.ensures))), omega arith)
      | else-x-y w ↦ elim w.else-x-y.branch [
        | else-x-y-via-then-x-y+else-look v ↦ (rw (w.row-is, v.row-is) (only_fell_then loop.invariant.0 (only_fell_look wide loop.k (omega arith) (rw long at v.look.ensures))), omega arith)
        | else-x-y-via-else-x-y v ↦ (rw (w.row-is, v.row-is) loop.invariant.0, omega arith)
      ]
    ]

pub returns : goal.returns
returns c = (c.loop-k.invariant.0, omega arith)
