-- The places before q are served (`order_gathers`), so the gathered list permits what the carriers placed before q
-- permit (`lent_smallest`), and the first tick by it is the smallest tick at place q. It is early (`next_early`), so it
-- fits 32 bits. It is written at the carrier's number, which is below 64.
use Rattle.std.proofs.Common.{ℕ, ◌*◌, ◌≤◌, length, get_or, slice_set, ap, subst, arith}
use Rattle.hall.specs.Ticks.{SmallestFrom, PermittedBy, PermittedAt, pair_of}
use Rattle.hall.specs.Plan.{tables_in}
use Rattle.ticks.proofs.Order.{number_below}
use Rattle.ticks.proofs.Gathering.{order_gathers, served_gathered, lent_smallest}
use Rattle.ticks.proofs.Places.{next_early}
use Rattle.ticks.proofs.place_next.Goals as goal
use Rattle.ticks.proofs.place_next.Goals.{After-gather, After-first_tick-tick}

-- the gathered list has the places before q
fits : (c : After-gather) → c.args.q.0 ≤ length c.gather.new.held
fits c = omega (arith, c.requires.0.few_places, c.requires.1)

-- the first tick by the gathered list is the smallest at the place
smallest : (c : After-first_tick-tick) →
    let a = c.args in
    SmallestFrom 0
    (PermittedAt a.dwell (tables_in a.table.now) a.order.now (λ i. get_or a.ticks.now i 0) a.q.0)
    c.first_tick-tick.result
smallest c =
    let a = c.args in
    let gather = c.gather in
    let new = c.carrier-new in
    let q = a.q.0 in
    let listed = c.requires.0 in
    let inside = c.requires.1 in
    subst
    (λ (n : ℕ). SmallestFrom 0
    (PermittedBy a.dwell q
    (λ p. pair_of (tables_in a.table.now) (get_or a.order.now p 0) n)
    (λ p. get_or a.ticks.now (get_or a.order.now p 0) 0))
    c.first_tick-tick.result)
    new.ensures
    (lent_smallest a.dwell a.table.now a.order.now a.ticks.now _ gather.new.held
    new.result.0 q
    (served_gathered a.table.now a.order.now a.ticks.now q new.result.0 _ _ gather.result
    (order_gathers listed q _ (omega (arith, inside)) (number_below listed q inside new.ensures) (omega arith)) gather.ensures)
    (fits (goal.at.After-first_tick-tick c).After-gather) c.first_tick-tick.ensures)

early : (c : After-first_tick-tick) → c.first_tick-tick.result ≤ 65791 * c.args.q.0
early c =
    let a = c.args in
    next_early a.dwell a.table.now a.order.now a.ticks.now a.q.0 c.requires.3
    (λ k. omega (arith, c.type_inv.table k))
    c.requires.2 (smallest c)

pub overflow_cast-ticks : goal.overflow_cast-ticks
overflow_cast-ticks c =
    let at = (goal.at.overflow_cast-ticks c).After-first_tick-tick in
    omega (arith, early at, c.requires.0.few_places, c.requires.1)

pub returns : goal.returns
returns c =
    let at = (goal.at.returns c).After-first_tick-tick in
    let first = c.first_tick-tick.result in
    record {
      tick = first;
      smallest = smallest at;
      early = early at;
      written = ap (λ (n : ℕ). slice_set c.args.ticks.now n first) c.carrier-new.ensures;
    }
