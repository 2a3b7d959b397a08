-- The invariant of `first_unreached`: each carrier before i has a distance of its own.
use Rattle.std.proofs.Common.{ℕ, ◌<◌, ◌≢◌}
use Rattle.hall.specs.Limits.{no_walk_mark}
use Rattle.hall.specs.Ticks.{own}
use Rattle.hall.specs.Plan.{tables_in}
use Rattle.tables.proofs.first_unreached.Given as goal

abbrev pub invariant-loop-i : goal.invariant-loop-i
invariant-loop-i l = ((x : ℕ) → x < l.i → own (tables_in l.table) x ≢ no_walk_mark)
