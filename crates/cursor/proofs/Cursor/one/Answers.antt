-- Each return stands behind the parts that were read.
use Rattle.cursor.proofs.Steps.{no_entry, one_open, one_line}
use Rattle.cursor.proofs.Cursor.one.Goals as goal

pub returns-in_err-n : goal.returns-in_err-n
returns-in_err-n c = rw c.from_residual.ensures (no_entry 0 _ c.in_err-n.ensures)

pub returns-in_err-next : goal.returns-in_err-next
returns-in_err-next c =
    rw c.from_residual-in_err-next.ensures
    (one_open c.args.text.now c.args.self _ _ c.in_ok-n.ensures c.in_err-next.ensures)

pub returns : goal.returns
returns c =
    one_line c.args.text.now c.args.self _ _ c.in_ok-n.ensures _ c.in_ok-next.ensures.0 c.in_ok-next.ensures.1
