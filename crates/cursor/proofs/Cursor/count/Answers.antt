-- Each return stands behind the parts that were read.
use Rattle.std.proofs.Common.{◌∙◌}
use Rattle.cursor.proofs.Steps.{count_bad, count_alone, count_line_lem}
use Rattle.cursor.proofs.Cursor.count.Goals as goal

pub returns-in_err-behind : goal.returns-in_err-behind
returns-in_err-behind c =
    rw c.from_residual.ensures (count_bad c.args.text.now c.args.word.now c.args.self c.in_err-behind.ensures)

pub returns-in_err-second : goal.returns-in_err-second
returns-in_err-second c =
    let word = c.in_ok-behind.ensures in
    rw c.from_residual-in_err-second.ensures
    (count_alone c.args.text.now c.args.word.now c.args.self c.in_ok-behind.behind word.0 word.1
    c.in_err-second.ensures)

pub returns : goal.returns
returns c =
    let word = c.in_ok-behind.ensures in
    let space = c.in_ok-second.ensures in
    count_line_lem c.args.text.now c.args.word.now c.args.self c.in_ok-behind.behind word.0 word.1
    c.in_ok-second.second space.0 (space.1 ∙ word.2)
    c.one.result c.one.ensures
