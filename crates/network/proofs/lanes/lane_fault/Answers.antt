-- The four numbers are read from the list. Behind a lane with the same lower end the higher ends decide, and
-- behind another the lower ends.
use Rattle.network.proofs.LaneList.{same_lower_told, other_lower_told}
use Rattle.network.proofs.lanes.lane_fault.Goals as goal

pub returns-then-low_before-low : goal.returns-then-low_before-low
returns-then-low_before-low c =
    same_lower_told c.args.nodes c.args.lanes.now c.args.k c.number_at-low.result
    c.number_at-high.result
    c.if-k-lanes.false
    c.number_at-low.ensures
    c.number_at-high.ensures
    c.number_at-low_before.result
    c.number_at-high_before.result
    c.number_at-low_before.ensures
    c.number_at-high_before.ensures
    c.if-high-low.false
    c.if-high-nodes.false
    c.if-k-eq0.false
    c.if-low_before-low.true

pub returns : goal.returns
returns c =
    other_lower_told c.args.nodes c.args.lanes.now c.args.k c.number_at-low.result
    c.number_at-high.result
    c.if-k-lanes.false
    c.number_at-low.ensures
    c.number_at-high.ensures
    c.number_at-low_before.result
    c.number_at-high_before.result
    c.number_at-low_before.ensures
    c.number_at-high_before.ensures
    c.if-high-low.false
    c.if-high-nodes.false
    c.if-k-eq0.false
    c.if-low_before-low.false
