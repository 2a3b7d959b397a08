-- The loop of `admission::ask::lowest_blocking`: no slot before place i blocks.
use Rattle.std.proofs.Common.{ℕ, ◌<◌}
use Rattle.admission.specs.Steps.{Blocking}
use Rattle.admission.proofs.ask.lowest_blocking.Given as goal

abbrev pub invariant-loop-i : goal.invariant-loop-i
invariant-loop-i l = (j : ℕ) → j < l.i → ¬ Blocking l.rows l.own l.book.dwell l.t l.book.slots j
