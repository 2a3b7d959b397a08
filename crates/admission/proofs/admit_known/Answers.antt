-- `admission::admit_known` meets its contract: a refusal of the checks is the first fault, 15 is given if no
-- slot is free after forgetting, and else the carrier has the smallest tick and the lowest free slot. Assumes
-- nothing.
use Rattle.std.proofs.Common.{◌≢◌, List, ℕ, Some, None, ◌<◌, arith}
use Rattle.hall.specs.Floor.{network_in}
use Rattle.hall.specs.Stages.{None as NothingOf}
use Rattle.hall.proofs.Compose.{sound_none}
use Rattle.slots.specs.declared.Slot.{Slot}
use Rattle.slots.specs.Record.{slot_count, free, slot_at, LowestFree, AsFree, found, none_free}
use Rattle.admission.specs.Questions.{call_question}
use Rattle.admission.proofs.SoundCall.{book_sound, call_tells}
use Rattle.admission.proofs.Admitting.{kept_on_rows, tick_fits, refuses, no_slot, admitted}
use Rattle.admission.proofs.SoundAfter.{settled_then}
use Rattle.admission.proofs.admit_known.Goals as goal
use Rattle.admission.proofs.admit_known.Goals.{In_default}

-- what the lowest free slot tells
none_left : {slots : List Slot} → AsFree slots None → (j : ℕ) → j < slot_count → slot_at slots j ≢ free
none_left (none_free none) = none

lowest_there : {slots : List Slot} {i : ℕ} → AsFree slots (Some i) → LowestFree slots i
lowest_there (found low) = low

-- the call passes its checks
passes : (c : In_default) → let a = c.args in NothingOf (call_question (network_in a.network.now) a.book a.clock a.ends.start a.ends.goal)
passes c =
    let a = c.args in
    sound_none (call_question (network_in a.network.now) a.book a.clock a.ends.start a.ends.goal) c.in_default.is c.check_known-checked.ensures.judged

pub returns-in_default-lowest_free : goal.returns-in_default-lowest_free
returns-in_default-lowest_free c =
    let a = c.args in
    let N = network_in a.network.now in
    let sound = passes (goal.at.returns-in_default-lowest_free c).In_default in
    let forgot = c.forget-left.ensures in
    let none = rw forgot.forgets at (none_left (rw c.in_default-lowest_free.is at c.lowest_free.ensures)) in
    refuses N a.book a.clock a.ends.start a.ends.goal _ c.refusing-in_default-lowest_free.ensures
    (rw c.new.ensures (no_slot N a.book a.clock a.ends.start a.ends.goal forgot.so_many sound none))

pub bounds-rows-ends : goal.bounds-rows-ends
bounds-rows-ends c =
    let a = c.args in
    let sound = passes (goal.at.bounds-rows-ends c).In_default in
    let move = call_tells (network_in a.network.now) a.book a.clock a.ends.start a.ends.goal sound in
    omega (arith, move.few_nodes, move.goal_open.numbered)

pub first_for-tick-requires : goal.first_for-tick-requires
first_for-tick-requires c =
    let a = c.args in
    let sound = passes (goal.at.first_for-tick-requires c).In_default in
    let forgot = c.forget-left.ensures in
    let whole = book_sound (network_in a.network.now) a.book a.clock a.ends.start a.ends.goal sound in
    rw forgot.forgets (kept_on_rows a.book forgot.so_many whole a.book.dwell a.clock)

pub overflow_cast-tick : goal.overflow_cast-tick
overflow_cast-tick c =
    let a = c.args in
    let N = network_in a.network.now in
    let sound = passes (goal.at.overflow_cast-tick c).In_default in
    let rows = c.check_known-checked.ensures.rows c.in_default.is in
    let forgot = c.forget-left.ensures in
    let tick = rw forgot.forgets at c.first_for-tick.ensures in
    record { fits = omega (arith, tick_fits N a.book a.clock a.ends.start a.ends.goal forgot.so_many sound _ rows tick) }

pub returns : goal.returns
returns c =
    let a = c.args in
    let N = network_in a.network.now in
    let sound = passes (goal.at.returns c).In_default in
    let rows = c.check_known-checked.ensures.rows c.in_default.is in
    let forgot = c.forget-left.ensures in
    let low = rw forgot.forgets at (lowest_there (rw c.in-Some.is at c.lowest_free.ensures)) in
    let tick = rw forgot.forgets at c.first_for-tick.ensures in
    let done = admitted N a.book a.clock a.ends.start a.ends.goal forgot.so_many sound _ rows _ low tick in
    rw (c.entered.ensures, forgot.forgets) (done, settled_then N forgot.so_many done)
