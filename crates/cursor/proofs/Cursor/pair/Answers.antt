-- Each return stands behind the parts that were read.
use Rattle.cursor.proofs.Steps.{no_entry, pair_alone, pair_open, pair_line}
use Rattle.cursor.proofs.Cursor.pair.Goals as goal

pub returns-in_err-a : goal.returns-in_err-a
returns-in_err-a c = rw c.from_residual.ensures (no_entry 1 _ c.in_err-a.ensures)

pub returns-in_err-second : goal.returns-in_err-second
returns-in_err-second c =
    rw c.from_residual-in_err-second.ensures
    (pair_alone c.args.text.now c.args.self _ _ c.in_ok-a.ensures c.in_err-second.ensures)

pub returns-in_err-b : goal.returns-in_err-b
returns-in_err-b c =
    let space = c.in_ok-second.ensures in
    rw c.from_residual-in_err-b.ensures
    (pair_open c.args.text.now c.args.self _ _ c.in_ok-a.ensures c.in_ok-second.second space.0 c.in_err-b.ensures)

pub returns : goal.returns
returns c =
    let space = c.in_ok-second.ensures in
    pair_line c.args.text.now c.args.self _ _ c.in_ok-a.ensures _ space.0 space.1 _ _ c.in_ok-b.ensures
