-- Too few records are refused before anything is read, and otherwise the answer is that of reading into
-- numbers.
use Rattle.std.proofs.Common.{refl, arith}
use Rattle.recorded.specs.Loading.{few, enough}
use Rattle.recorded.proofs.read_beside.Goals as goal

pub returns-then-records-lt-CARRIERS : goal.returns-then-records-lt-CARRIERS
returns-then-records-lt-CARRIERS c =
    rw c.new.ensures (few _ c.if-records-lt-CARRIERS.true refl refl refl refl refl)

pub returns : goal.returns
returns c = enough _ (omega arith) c.read_numbers.ensures
