-- The number of each fault (rules 8.1 to 8.17). No fault has 6, which is not in use (rule 8.6; `six_unused`,
-- proofs/Numbers.antt). Stages, answers and promises speak of the numbers; nothing in the definitions goes
-- through the faults one by one but this.
--     number_of    the number under which a fault is listed
use Rattle.std.specs.Prelude.{ℕ}
use Rattle.hall.specs.declared.Fault.{Fault}
use Rattle.hall.specs.declared.Fault.TheVariants.{Malformed, BadCount, BadLane, NoNode, SameEnds}
use Rattle.hall.specs.declared.Fault.TheVariants.{BadOrder, Unreachable, ShortTable, NoCarrier}
use Rattle.hall.specs.declared.Fault.TheVariants.{NotShortest, BadClosed, ClosedEnd}
use Rattle.hall.specs.declared.Fault.TheVariants.{BadClock, NoSlot, BadBook, StaleSlot}

abbrev pub number_of : Fault → ℕ
number_of Malformed = 1
number_of BadCount = 2
number_of BadLane = 3
number_of NoNode = 4
number_of SameEnds = 5
number_of BadOrder = 7
number_of Unreachable = 8
number_of ShortTable = 9
number_of NoCarrier = 10
number_of NotShortest = 11
number_of BadClosed = 12
number_of ClosedEnd = 13
number_of BadClock = 14
number_of NoSlot = 15
number_of BadBook = 16
number_of StaleSlot = 17
