-- What `fill` serves is filled, so that the search for the lowest carrier without a walk looks at it; then
-- 8 is first there, or no carrier is without a walk and the own distances are copied over zeros.
use Rattle.tables.proofs.Measuring.{is_lost, is_measured}
use Rattle.tables.proofs.measure.Goals as goal

pub returns-in-Some : goal.returns-in-Some
returns-in-Some c =
    is_lost c.if-not-fill.ensures c.args.distances.now c.if-distances-lt-CARRIERS.false c.in-Some.is c.first_unreached.ensures
    c.fill_first-in-Some.ensures c.fill_first.ensures

pub returns : goal.returns
returns c =
    is_measured c.if-not-fill.ensures c.args.distances.now c.if-distances-lt-CARRIERS.false c.in_default.is c.first_unreached.ensures
    c.fill_first.ensures c.copy_own.ensures
