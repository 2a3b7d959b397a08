-- The loop's invariant: the first i numbers stand at the front of the list, with what it held behind them.
use Rattle.try_batch.proofs.Payloads.{ShortsLoaded}
use Rattle.try_batch.proofs.payload.load.Given as goal

abbrev pub invariant-loop-i : goal.invariant-loop-i
invariant-loop-i l = ShortsLoaded l.s l.count l.initial.list l.list l.i
