-- Where no capital letter stands the word does not; where the next letter stands the word goes on.
use Rattle.std.proofs.Common.{◌∙◌, arith}
use Rattle.cursor.proofs.Parts.{word_ends, word_goes_on}
use Rattle.cursor.proofs.Cursor.word.Goals as goal

pub returns-in_err-b : goal.returns-in_err-b
returns-in_err-b c =
    rw c.from_residual.ensures
    (word_ends _ _ _ _ c.loop-letter.here (omega arith) c.loop-letter.invariant.0 c.in_err-b.ensures)

pub loop-letter-preserved : goal.loop-letter-preserved
loop-letter-preserved c = (
  word_goes_on _ _ _ _ c.loop-letter.here (omega arith) c.loop-letter.invariant.0 _ _ c.in_ok-b.ensures
      c.if-b-letter.false,
  c.in_ok-b.ensures.same_line ∙ c.loop-letter.invariant.1,
)
