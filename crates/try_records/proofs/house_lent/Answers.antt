-- The front that is lent is that of the promise, as `front` says.
use Rattle.try_records.proofs.house_lent.Goals as goal

pub returns : goal.returns
returns c = rw c.front.ensures at c.house.ensures
