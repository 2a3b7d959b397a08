-- The invariant of `more` is `DigitsSoFar`: the digits of the value so far stand in front of the cursor, and so
-- many may still come.
use Rattle.std.proofs.Common.{◌++◌, ◌-◌, drop}
use Rattle.put.specs.Digits.{digits}
use Rattle.cursor.proofs.Parts.{DigitsSoFar}
use Rattle.cursor.proofs.Cursor.more.Given as goal

abbrev pub invariant-loop : goal.invariant-loop
invariant-loop l =
    DigitsSoFar l.text (digits l.first ++ drop l.initial.here.at l.text) l.initial.here.line l.value l.here
    (3 - l.counter)
