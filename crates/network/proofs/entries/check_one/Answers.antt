-- Each arm is the check of its own kind of entry.
use Rattle.network.proofs.entries.check_one.Goals as goal

pub returns-in-Lanes : goal.returns-in-Lanes
returns-in-Lanes c = rw c.in-Lanes.is c.check_lane.ensures

pub returns-in-Closed : goal.returns-in-Closed
returns-in-Closed c = rw c.in-Closed.is c.check_closed_node.ensures

pub returns-in-Moves : goal.returns-in-Moves
returns-in-Moves c = rw c.in-Moves.is c.check_entry.ensures

pub returns-in-Places : goal.returns-in-Places
returns-in-Places c = rw c.in-Places.is c.check_place.ensures
