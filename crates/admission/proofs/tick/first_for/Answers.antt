-- `admission::tick::first_for` meets its contract: none is gathered in a list of nobody, one slot more is
-- with each turn, and the search over the list that all are gathered in has the smallest tick. Assumes
-- nothing.
use Rattle.std.proofs.Common.{◌≡◌, ◌∙◌, ap, arith}
use Rattle.rule.specs.Held.{held_with}
use Rattle.rule.proofs.Holding.{holding_written}
use Rattle.admission.proofs.Gathering.{gathered_more, gathered_smallest}
use Rattle.admission.proofs.tick.first_for.Goals as goal

pub loop-i-preserved : goal.loop-i-preserved
loop-i-preserved c =
    let loop = c.loop-i in
    gathered_more _ _ _ loop.held loop.i (omega arith) loop.invariant c.hold.new.held
    (holding_written loop.held loop.i _ _ c.hold.new.held c.hold.result (omega (arith, loop.invariant.size)) c.hold.ensures
    ∙ ap (held_with loop.held loop.i _) c.pair_for.ensures)

pub returns : goal.returns
returns c =
    let loop = c.loop-i in
    let a = c.args in
    let e : loop.i ≡ 64 = omega arith in
    gathered_smallest a.rows.now a.own a.book.now.slots loop.held a.book.now.dwell (rw e at loop.invariant) c.first_tick.ensures
