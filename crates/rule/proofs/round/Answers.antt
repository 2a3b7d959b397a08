-- A round begins where nothing has moved yet, and goes on by the first tick that the next carrier permits (`Reach`).
use Rattle.rule.specs.Held.{held_pair, held_tick}
use Rattle.rule.proofs.Reach.{round_begins, round_on}
use Rattle.rule.proofs.round.Goals as goal

pub loop-carrier-init : goal.loop-carrier-init
loop-carrier-init c = round_begins c.args.dwell c.args.held.now c.args.from c.requires

pub loop-carrier-preserved : goal.loop-carrier-preserved
unfolding held_pair held_tick
loop-carrier-preserved c =
    let loop = c.loop-carrier in
    let free = c.free_from-tick in
    round_on c.args.dwell c.args.held.now c.args.from loop.carrier-index loop.tick free.result
    c.loop-carrier-test.true loop.invariant free.ensures.smallest free.ensures.within
