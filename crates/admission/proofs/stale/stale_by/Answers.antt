-- `admission::stale::stale_by` meets its contract: there is no row, the goal is no node, or the row tells
-- another distance. Assumes nothing.
use Rattle.hall.proofs.Answers.{affirmed}
use Rattle.admission.specs.Steps.{no_row, no_goal, other_number}
use Rattle.admission.proofs.StaleSlots.{on_row}
use Rattle.admission.proofs.stale.stale_by.Goals as goal

pub returns-in_default : goal.returns-in_default
returns-in_default c = rw c.in_default.is (record { there = affirmed _ c.if-not-stands_from.false c.stands_from.ensures; off = no_row })

pub returns-then-goal-row : goal.returns-then-goal-row
returns-then-goal-row c =
    rw c.in-Some.is (record { there = affirmed _ c.if-not-stands_from.false c.stands_from.ensures; off = no_goal c.if-goal-row.true })

pub returns-then-row-goal : goal.returns-then-row-goal
returns-then-row-goal c = rw c.in-Some.is (on_row c.if-goal-row.false c.if-row-goal.true)

pub returns : goal.returns
returns c = rw c.in-Some.is (record { there = affirmed _ c.if-not-stands_from.false c.stands_from.ensures; off = other_number c.if-row-goal.false })
