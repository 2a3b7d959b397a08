-- Each word is written out.
use Rattle.std.proofs.Common.{rules}
use Rattle.form.specs.Words.{NODES, LANES, CLOSED, CARRIERS, ORDER, DWELL}
use Rattle.reader.proofs.sections.word_of.Goals as goal

pub returns-in-Nodes : goal.returns-in-Nodes
unfolding NODES
returns-in-Nodes c = search rules

pub returns-in-Listed-Lanes : goal.returns-in-Listed-Lanes
unfolding LANES
returns-in-Listed-Lanes c = search rules

pub returns-in-Listed-Closed : goal.returns-in-Listed-Closed
unfolding CLOSED
returns-in-Listed-Closed c = search rules

pub returns-in-Listed-Moves : goal.returns-in-Listed-Moves
unfolding CARRIERS
returns-in-Listed-Moves c = search rules

pub returns-in-Listed-Places : goal.returns-in-Listed-Places
unfolding ORDER
returns-in-Listed-Places c = search rules

pub returns-in-Dwell : goal.returns-in-Dwell
unfolding DWELL
returns-in-Dwell c = search rules
