-- `number` calls itself at the number's tenth, so the measure is the number.
use Rattle.put.proofs.Out.+number.Given as goal

abbrev pub decreases-number : goal.decreases-number
decreases-number l = l.n
