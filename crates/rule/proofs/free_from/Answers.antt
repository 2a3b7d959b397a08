-- The inner rule says whether the tick is forbidden. If it is, the laws of one stretch (`Stretch`) give the first
-- free tick: the high end where there is no dwell and the exception holds there, the tick after it otherwise.
use Rattle.std.proofs.Common.{arith, ◌+◌, ◌-◌, ℕ}
use Rattle.hall.specs.Rule.{Forbidden⁺}
use Rattle.hall.proofs.Rules.{forbidden_iff}
use Rattle.rule.specs.Held.{pair_in}
use Rattle.rule.proofs.Stretch.{free_after_last, free_at_last}
use Rattle.rule.proofs.free_from.Goals as goal
use Rattle.rule.proofs.free_from.Goals.{Else-not-forbidden, else-dwell-eq0-via-then-dwell-eq0+else-excepted, else-dwell-eq0-via-else-dwell-eq0}

-- the upper end of the stretch
abbrev last : Else-not-forbidden → ℕ
last c = let h = c.args.held in h.tick + h.pair.ii + c.args.dwell - h.pair.ji

-- past the first test the tick is forbidden
clash : (c : Else-not-forbidden) → Forbidden⁺ c.args.dwell (pair_in c.args.held.pair) c.args.held.tick c.args.from
clash c = (forbidden_iff c.args.dwell (pair_in c.args.held.pair) c.args.held.tick c.args.from).0 c.if-not-forbidden.ensures

pub overflow_sub-last : goal.overflow_sub-last
overflow_sub-last c = let f = clash (goal.at.overflow_sub-last c).Else-not-forbidden in omega (arith, f.high)

pub returns-then-excepted-clause-smallest : goal.returns-then-excepted-clause-smallest
returns-then-excepted-clause-smallest c =
    let s = (goal.at.returns-then-excepted-clause-smallest c).Else-not-forbidden in
    let f = clash s in
    free_at_last s.args.dwell (pair_in s.args.held.pair) s.args.held.tick s.args.from (last s) f (omega (arith, f.high))
    (omega (arith, c.if-dwell-eq0.true)) c.if-excepted.ensures

pub returns-clause-smallest : goal.returns-clause-smallest
returns-clause-smallest c =
    let s = (goal.at.returns-clause-smallest c).Else-not-forbidden in
    let f = clash s in
    free_after_last s.args.dwell (pair_in s.args.held.pair) s.args.held.tick s.args.from (last s) f (omega (arith, f.high))
    (λ z e. elim c.else-dwell-eq0.branch [
      | else-dwell-eq0-via-then-dwell-eq0+else-excepted w ↦ w.if-excepted.ensures e
      | else-dwell-eq0-via-else-dwell-eq0 w ↦ omega arith
    ])
