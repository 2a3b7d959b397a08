-- The loop of `admission::stale::lowest_by`: no slot from `from` on and before place p is told to be stale.
use Rattle.std.proofs.Common.{ℕ, ◌≤◌, ◌<◌}
use Rattle.std.specs.Prelude.{option_copied}
use Rattle.slots.specs.Record.{slot_at}
use Rattle.admission.specs.Steps.{StaleBy}
use Rattle.admission.proofs.stale.lowest_by.Given as goal

abbrev pub invariant-loop-p : goal.invariant-loop-p
invariant-loop-p l = (q : ℕ) → q < l.p → l.from ≤ q → ¬ StaleBy (option_copied l.row) l.start l.book.dwell l.t (slot_at l.book.slots q)
