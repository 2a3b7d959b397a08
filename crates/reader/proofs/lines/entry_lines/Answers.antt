-- Each turn is one law of EntryLines.antt: the table has room for the entry, whose line is lacking, or is faulty,
-- or goes on.
use Rattle.reader.proofs.EntryLines.{lines_begin, room_here, lines_lack, lines_fail, lines_next}
use Rattle.reader.proofs.lines.entry_lines.Goals as goal

pub loop-k-init : goal.loop-k-init
loop-k-init c = lines_begin _ _ _ _ _ _ _

pub returns-in_default : goal.returns-in_default
returns-in_default c =
    lines_lack _ _ _ _ _ _ _ _ _ _ c.loop-k.invariant c.loop-k-test.true _ _ c.new.ensures c.in_default.ensures

pub returns-in-Err : goal.returns-in-Err
returns-in-Err c =
    let room = room_here _ _ _ _ _ _ _ _ _ _ c.loop-k.invariant c.loop-k-test.true c.requires.room in
    lines_fail _ _ _ _ _ _ _ _ _ _ c.loop-k.invariant c.loop-k-test.true _ _ c.in-Some.ensures
    (rw c.store_entry.auto.table room) _ c.check_one.ensures _ c.in-Err.is _
    c.new-in-Err.ensures

pub loop-k-preserved : goal.loop-k-preserved
loop-k-preserved c =
    let room = room_here _ _ _ _ _ _ _ _ _ _ c.loop-k.invariant c.loop-k-test.true c.requires.room in
    lines_next _ _ _ _ _ _ _ _ _ _ c.loop-k.invariant c.loop-k-test.true _ _ c.in-Some.ensures
    (rw c.store_entry.auto.table room) _ c.check_one.ensures c.in_default-check_one.is
    c.store_entry.auto.table
