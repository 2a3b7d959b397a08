-- The front that is lent is that of the promise, as `front` says.
use Rattle.try_records.proofs.judge_lent.Goals as goal

pub returns : goal.returns
returns c = rw c.front.ensures at c.judge.ensures
