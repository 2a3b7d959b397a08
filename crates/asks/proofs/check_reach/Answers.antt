-- Carriers are looked at from 0 on, so the one that no walk takes to its goal is the first; a carrier that has a
-- walk is passed, and past the last carrier all are.
use Rattle.std.proofs.Common.{refl, arith, below_more}
use Rattle.hall.specs.Floor.{network_in}
use Rattle.hall.specs.Stages.{here, ClearAt}
use Rattle.hall.specs.Questions.{walk_checks}
use Rattle.hall.proofs.Answers.{affirmed, denied}
use Rattle.hall.proofs.Compose.{first_here}
use Rattle.hall.proofs.Places.{each_first, loop_ends}
use Rattle.asks.proofs.check_reach.Goals as goal

pub returns-then-cut_off : goal.returns-then-cut_off
returns-then-cut_off c =
    let none = affirmed _ c.if-cut_off.true c.cut_off.ensures in
    let checks = walk_checks (network_in c.args.network.now) c.args.moves.now in
    let ends = c.move_of.ensures in
    rw c.new.ensures
    (first_here (each_first checks c.loop-i-test.true c.loop-i.invariant
    (here (refl, rw (ends.start, ends.goal) at none))))

pub loop-i-preserved : goal.loop-i-preserved
loop-i-preserved c =
    let some = denied _ c.if-cut_off.false c.cut_off.ensures in
    let checks = walk_checks (network_in c.args.network.now) c.args.moves.now in
    let ends = c.move_of.ensures in
    record { clear = below_more (ClearAt checks) _ c.loop-i.invariant.clear (rw (ends.start, ends.goal) at some, tt) }

pub returns : goal.returns
returns c = loop_ends c.loop-i.invariant (omega arith)
