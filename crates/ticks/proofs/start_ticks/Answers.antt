-- What is not served is left as it came. Otherwise every place is done (`place_all`), the ticks are early, so that the
-- cost fits (`cost_fits`), and the promise holds (`placed_given`).
use Rattle.std.proofs.Common.{◌≡◌, length, get_or, arith}
use Rattle.hall.specs.Ticks.{cost_of}
use Rattle.hall.specs.Plan.{tables_in}
use Rattle.ticks.proofs.Sums.{cost_whole, cost_fits}
use Rattle.ticks.proofs.Outcome.{placed_given}
use Rattle.ticks.proofs.start_ticks.Goals as goal
use Rattle.ticks.proofs.start_ticks.Goals.{After-cost-sum}

-- the cost is that of all carriers
cost_is : (c : After-cost-sum) →
    c.cost-sum.result
    ≡ cost_of (tables_in c.args.table.now) (λ i. get_or c.place_all.new.ticks i 0) (length c.args.order.now)
cost_is c = cost_whole c.if-not-served.ensures.listed c.place_all.new.ticks c.cost-sum.ensures

pub overflow_cast-result : goal.overflow_cast-result
overflow_cast-result c =
    omega (
      arith,
      cost_is (goal.at.overflow_cast-result c).After-cost-sum,
      cost_fits c.if-not-served.ensures.listed c.place_all.new.ticks (λ x. omega (arith, c.type_inv.table x)) c.place_all.ensures.early,
    )

pub returns : goal.returns
returns c =
    let a = c.args in
    let all = c.place_all in
    placed_given a.table.now a.order.now a.dwell a.ticks.now all.new.ticks c.cost-sum.result
    c.if-not-served.ensures all.ensures (cost_is (goal.at.returns c).After-cost-sum)
