-- The steps of WholeText.antt, one a section, each of which makes the next one ready or stops there, and the
-- answer at the end.
use Rattle.std.proofs.Common.{arith}
use Rattle.std.proofs.lemmas.Result.{err_from_is_err_and}
use Rattle.reader.proofs.WholeText.{ready_nodes, ready_lanes, ready_closed, ready_moves, ready_order, ready_dwell}
use Rattle.reader.proofs.WholeText.{stop_nodes, stop_lanes, stop_closed, stop_moves, stop_order, stop_dwell}
use Rattle.reader.proofs.WholeText.{text_read}
use Rattle.reader.proofs.read_text.Goals as goal

pub section-requires : goal.section-requires
section-requires c = (
  ready_nodes _ c.args.lanes.now c.args.closed.now c.args.moves.now c.args.order.now _ _
      c.empty.ensures c.start.ensures,
  omega arith,
)

pub returns-in_err-read : goal.returns-in_err-read
returns-in_err-read c =
    let p = err_from_is_err_and c.from_residual.result c.from_residual.ensures.1 in
    rw (p.1, p.2)
    (stop_nodes _ c.args.lanes.now c.args.closed.now c.args.moves.now c.args.order.now _ _
    c.empty.ensures c.start.ensures
    _
    _ c.in_err-read.ensures)

pub section-requires-2 : goal.section-requires-2
section-requires-2 c = (
  ready_lanes _ c.args.lanes.now c.args.closed.now c.args.moves.now c.args.order.now _ _
      c.empty.ensures c.start.ensures
      _ _ _ c.in_ok-read.ensures,
  rw c.section.auto.table c.requires.lanes_long,
)

pub returns-in_err-read-2 : goal.returns-in_err-read-2
returns-in_err-read-2 c =
    let p = err_from_is_err_and c.from_residual-in_err-read-2.result c.from_residual-in_err-read-2.ensures.1 in
    rw (p.1, p.2)
    (stop_lanes _ c.args.lanes.now c.args.closed.now c.args.moves.now c.args.order.now _ _
    c.empty.ensures c.start.ensures
    _ _ _ c.in_ok-read.ensures
    _
    _ c.in_err-read-2.ensures)

pub section-requires-3 : goal.section-requires-3
section-requires-3 c = (
  ready_closed _ c.args.lanes.now c.args.closed.now c.args.moves.now c.args.order.now _ _
      c.empty.ensures c.start.ensures
      _ _ _ c.in_ok-read.ensures
      _ _ _ c.in_ok-read-2.ensures,
  c.requires.closed_long,
)

pub returns-in_err-read-3 : goal.returns-in_err-read-3
returns-in_err-read-3 c =
    let p = err_from_is_err_and c.from_residual-in_err-read-3.result c.from_residual-in_err-read-3.ensures.1 in
    rw (p.1, p.2)
    (stop_closed _ c.args.lanes.now c.args.closed.now c.args.moves.now c.args.order.now _ _
    c.empty.ensures c.start.ensures
    _ _ _ c.in_ok-read.ensures
    _ _ _ c.in_ok-read-2.ensures
    _ c.requires.closed_long c.section-3.auto.table
    _ c.in_err-read-3.ensures)

pub section-requires-4 : goal.section-requires-4
section-requires-4 c = (
  ready_moves _ c.args.lanes.now c.args.closed.now c.args.moves.now c.args.order.now _ _
      c.empty.ensures c.start.ensures
      _ _ _ c.in_ok-read.ensures
      _ _ _ c.in_ok-read-2.ensures
      _ c.requires.closed_long c.section-3.auto.table _ _ c.in_ok-read-3.ensures,
  c.requires.moves_long,
)

pub returns-in_err-read-4 : goal.returns-in_err-read-4
returns-in_err-read-4 c =
    let p = err_from_is_err_and c.from_residual-in_err-read-4.result c.from_residual-in_err-read-4.ensures.1 in
    rw (p.1, p.2)
    (stop_moves _ c.args.lanes.now c.args.closed.now c.args.moves.now c.args.order.now _ _
    c.empty.ensures c.start.ensures
    _ _ _ c.in_ok-read.ensures
    _ _ _ c.in_ok-read-2.ensures
    _ c.requires.closed_long c.section-3.auto.table _ _ c.in_ok-read-3.ensures
    _
    _ c.in_err-read-4.ensures)

pub section-requires-5 : goal.section-requires-5
section-requires-5 c = (
  ready_order _ c.args.lanes.now c.args.closed.now c.args.moves.now c.args.order.now _ _
      c.empty.ensures c.start.ensures
      _ _ _ c.in_ok-read.ensures
      _ _ _ c.in_ok-read-2.ensures
      _ c.requires.closed_long c.section-3.auto.table _ _ c.in_ok-read-3.ensures
      _ _ _ c.in_ok-read-4.ensures,
  c.requires.order_long,
)

pub returns-in_err-read-5 : goal.returns-in_err-read-5
returns-in_err-read-5 c =
    let p = err_from_is_err_and c.from_residual-in_err-read-5.result c.from_residual-in_err-read-5.ensures.1 in
    rw (p.1, p.2)
    (stop_order _ c.args.lanes.now c.args.closed.now c.args.moves.now c.args.order.now _ _
    c.empty.ensures c.start.ensures
    _ _ _ c.in_ok-read.ensures
    _ _ _ c.in_ok-read-2.ensures
    _ c.requires.closed_long c.section-3.auto.table _ _ c.in_ok-read-3.ensures
    _ _ _ c.in_ok-read-4.ensures
    _
    _ c.in_err-read-5.ensures)

pub section-requires-6 : goal.section-requires-6
section-requires-6 c = (
  ready_dwell _ c.args.lanes.now c.args.closed.now c.args.moves.now c.args.order.now _ _
      c.empty.ensures c.start.ensures
      _ _ _ c.in_ok-read.ensures
      _ _ _ c.in_ok-read-2.ensures
      _ c.requires.closed_long c.section-3.auto.table _ _ c.in_ok-read-3.ensures
      _ _ _ c.in_ok-read-4.ensures
      _ _ _ c.in_ok-read-5.ensures,
  omega arith,
)

pub returns-in_err-read-6 : goal.returns-in_err-read-6
returns-in_err-read-6 c =
    let p = err_from_is_err_and c.from_residual-in_err-read-6.result c.from_residual-in_err-read-6.ensures.1 in
    rw (p.1, p.2)
    (stop_dwell _ c.args.lanes.now c.args.closed.now c.args.moves.now c.args.order.now _ _
    c.empty.ensures c.start.ensures
    _ _ _ c.in_ok-read.ensures
    _ _ _ c.in_ok-read-2.ensures
    _ c.requires.closed_long c.section-3.auto.table _ _ c.in_ok-read-3.ensures
    _ _ _ c.in_ok-read-4.ensures
    _ _ _ c.in_ok-read-5.ensures
    _
    _ c.in_err-read-6.ensures)

pub returns : goal.returns
returns c =
    text_read _ c.args.lanes.now c.args.closed.now c.args.moves.now c.args.order.now _ _
    c.empty.ensures c.start.ensures
    _ _ _ c.in_ok-read.ensures
    _ _ _ c.in_ok-read-2.ensures
    _ c.requires.closed_long c.section-3.auto.table _ _ c.in_ok-read-3.ensures
    _ _ _ c.in_ok-read-4.ensures
    _ _ _ c.in_ok-read-5.ensures
    _ _ _ c.in_ok-read-6.ensures
    c.requires _ c.at_end.ensures
