-- The invariant of `fill_all`: the rows that begin at one of the first x starts and goals are filled, and
-- a place in no row is as it came, `FilledTo`.
use Rattle.hall.specs.Floor.{network_in}
use Rattle.tables.proofs.Blocks.{FilledTo}
use Rattle.tables.proofs.fill_all.Given as goal

abbrev pub invariant-loop-x : goal.invariant-loop-x
invariant-loop-x l =
    FilledTo (network_in l.network) l.moves l.initial.table l.x l.table
