-- What was read is the first bytes of the input, whose answer is that to the whole input; what is written is that
-- answer, which lies within the room.
use Rattle.std.proofs.Common.{arith}
use Rattle.plan.proofs.Within.{answer_within, front_sized, input_answered}
use Rattle.plan.proofs.answer_input.Goals as goal

pub slice_bounds-room-end : goal.slice_bounds-room-end
slice_bounds-room-end g c = answer_within c.answer-printed.ensures

pub slice_bounds-write_all-end : goal.slice_bounds-write_all-end
slice_bounds-write_all-end g c = front_sized c.answer-printed.ensures

pub returns : goal.returns
returns g c =
    input_answered
    c.write_all.result
    _
    _
    _
    _
    c.read_full.new.buf
    _
    _
    _
    _
    (omega arith)
    (omega arith)
    c.in_ok-n.ensures.bound.0
    c.in_ok-n.ensures.bytes
    c.in_ok-n.ensures.end
    c.answer-printed.ensures
    c.write_all.ensures.bytes
