-- No digit, the digit 0, or a digit with what `more` reads behind it.
use Rattle.cursor.proofs.Parts.{number_zero, number_more}
use Rattle.cursor.proofs.Cursor.number.Goals as goal

pub returns-then-d-eq0 : goal.returns-then-d-eq0
returns-then-d-eq0 c = number_zero c.args.text.now c.args.self _ _ c.in_ok-d.ensures c.if-d-eq0.true

pub returns-else-d-eq0 : goal.returns-else-d-eq0
returns-else-d-eq0 c =
    number_more c.args.text.now c.args.self _ _ c.in_ok-d.ensures c.more.result c.more.ensures
