-- The invariant of `first_refusal`: the checks of the entries before entry k are passed.
use Rattle.std.proofs.Common.{ℕ, ◌<◌, Ok}
use Rattle.network.proofs.entries.first_refusal.Given as goal

abbrev pub invariant-loop-k : goal.invariant-loop-k
invariant-loop-k g l = (k : ℕ) → k < l.k → goal.F-post g l.check k (Ok tt)
