-- A word, a space and a field, one behind the other, are the line of the section.
use Rattle.put.proofs.Putting.{puts_then}
use Rattle.writer.proofs.Lines.{count_parts}
use Rattle.writer.proofs.put_count.Goals as goal

pub returns : goal.returns
returns c = rw count_parts (puts_then c.word.ensures (puts_then c.byte.ensures c.field.ensures))
