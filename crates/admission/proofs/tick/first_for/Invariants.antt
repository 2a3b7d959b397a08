-- The loop of `admission::tick::first_for`: the first i slots are gathered.
use Rattle.admission.proofs.Gathering.{GatheredTo}
use Rattle.admission.proofs.tick.first_for.Given as goal

abbrev pub invariant-loop-i : goal.invariant-loop-i
invariant-loop-i l = GatheredTo l.rows l.own l.book.slots l.held l.i
