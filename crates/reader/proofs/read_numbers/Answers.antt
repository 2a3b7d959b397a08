-- After a refusal the tables were zeroed, which is a law of Outcomes.antt.
use Rattle.reader.proofs.Outcomes.{read_refused}
use Rattle.reader.proofs.read_numbers.Goals as goal

pub returns-in-Err : goal.returns-in-Err
returns-in-Err c =
    let same = c.read_text-answer.auto in
    read_refused _ _ _ _ _ _ _ _ _ _ c.read_text-answer.ensures _ c.in-Err.is c.if-too_short.ensures
    same.lanes same.closed same.moves same.order _ _ _ _
    c.fill_first.ensures c.fill_first-in-Err.ensures c.fill_first-in-Err-2.ensures
    c.fill_first-in-Err-3.ensures
