-- To write the records from i on to the list as it is gives what is promised. In front of the loop that is
-- the promise itself, and after it no record is left.
use Rattle.std.proofs.Common.{◌≡◌, drop}
use Rattle.try_columns.specs.Columns.{told_from, told_to}
use Rattle.try_columns.proofs.told.Given as goal

abbrev pub invariant-loop-i : goal.invariant-loop-i
invariant-loop-i l = told_from l.i (drop l.i l.fn.records) l.fields ≡ told_to l.fn.records l.initial.fields
