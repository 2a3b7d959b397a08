-- A read puts what it takes from the input behind what was filled before, so the front of the buffer is all that
-- was taken. With a count of 0 nothing was added.
use Rattle.std.proofs.Common.{rules}
use Rattle.input.proofs.Filling.{filled_more, filled_none}
use Rattle.input.proofs.read_full.Goals as goal

pub loop-done-preserved : goal.loop-done-preserved
loop-done-preserved g c = record {
  within = search rules;
  given = filled_more _ _ _ _ _ _ _ _ c.loop-done.invariant.within c.in_ok-n.ensures.bound.0 c.loop-done.invariant.given c.in_ok-n.ensures.bytes.0;
}

pub returns-after-loop-done-clause-bytes : goal.returns-after-loop-done-clause-bytes
returns-after-loop-done-clause-bytes g c = c.loop-done.invariant.given

pub returns-then-n-eq0-clause-bytes : goal.returns-then-n-eq0-clause-bytes
returns-then-n-eq0-clause-bytes g c =
    filled_none _ _ _ _ _ _ _ _ c.if-n-eq0.true c.loop-done.invariant.within c.in_ok-n.ensures.bound.0 c.loop-done.invariant.given c.in_ok-n.ensures.bytes.0
