-- The invariant of `word` is `WordSoFar`: whether the whole word stands at the start is whether its letters from
-- the next one on stand at the cursor, which is in the same line.
use Rattle.std.proofs.Common.{◌≡◌}
use Rattle.cursor.proofs.Parts.{WordSoFar}
use Rattle.cursor.proofs.Cursor.word.Given as goal

abbrev pub invariant-loop-letter : goal.invariant-loop-letter
invariant-loop-letter l =
    WordSoFar l.text l.word l.initial.here.at l.letter-index l.here.at
    × (l.here.line ≡ l.initial.here.line)
