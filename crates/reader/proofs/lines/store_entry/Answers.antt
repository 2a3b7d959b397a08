-- A line of one number is stored at place k, a line of two at places 2k and 2k + 1.
use Rattle.std.proofs.Common.{arith}
use Rattle.reader.proofs.EntryKinds.{one_number, two_numbers}
use Rattle.reader.proofs.EntryLines.{stored_one, stored_two}
use Rattle.reader.proofs.lines.store_entry.Goals as goal

pub returns-in_ok-a-in-Closed : goal.returns-in_ok-a-in-Closed
returns-in_ok-a-in-Closed c =
    let size = one_number c.args.which c.in-Closed.is in
    let room = rw size at c.requires in
    rw size (stored_one _ _ _ _ _ _ c.in_ok-a-in-Closed.ensures (omega arith))

pub returns-in_ok-a-in-Lanes : goal.returns-in_ok-a-in-Lanes
returns-in_ok-a-in-Lanes c =
    let size = two_numbers c.args.which c.in-Lanes.is in
    let room = rw size at c.requires in
    rw size (stored_two _ _ _ _ _ _ _ c.in_ok-a-in-Lanes.ensures (omega arith))
