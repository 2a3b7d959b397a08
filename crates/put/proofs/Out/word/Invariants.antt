-- The invariant of `word`: the bytes passed are put from the place on.
use Rattle.std.proofs.Common.{take}
use Rattle.put.specs.Putting.{Puts}
use Rattle.put.proofs.Out.word.Given as goal

abbrev pub invariant-loop-b : goal.invariant-loop-b
invariant-loop-b l = Puts l.initial.self (take l.b-index l.word) l.self
