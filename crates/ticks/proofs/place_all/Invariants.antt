-- The invariant: the carriers at the places before q have their start ticks, and all other ticks are as they came.
use Rattle.ticks.specs.Steps.{PlacedTo}
use Rattle.ticks.proofs.place_all.Given as goal

abbrev pub invariant-loop-q : goal.invariant-loop-q
invariant-loop-q l = PlacedTo l.dwell l.table l.order l.initial.ticks l.ticks l.q
