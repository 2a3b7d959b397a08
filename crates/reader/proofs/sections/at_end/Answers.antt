-- Bytes are left, or none is.
use Rattle.reader.proofs.TextEnd.{end_lacks, end_here}
use Rattle.reader.proofs.sections.at_end.Goals as goal

pub returns-then-here-text : goal.returns-then-here-text
returns-then-here-text c = rw c.new.ensures (end_lacks _ c.args.read.0 _ c.if-here-text.true)

pub returns : goal.returns
returns c = end_here _ _ c.args.read.1 c.if-here-text.false
