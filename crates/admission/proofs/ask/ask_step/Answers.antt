-- `admission::ask::ask_step` meets its contract: a refusal of the checks is the first fault, and otherwise
-- the lowest slot whose pair by the rows forbids the tick is the lowest that forbids it. Assumes nothing.
use Rattle.std.proofs.Common.{arith}
use Rattle.std.proofs.lemmas.Result.{err_from_is_err_and}
use Rattle.hall.specs.Floor.{network_in}
use Rattle.hall.specs.Stages.{None}
use Rattle.hall.proofs.Compose.{refused_first, sound_none}
use Rattle.admission.specs.Questions.{call_question}
use Rattle.admission.proofs.SoundCall.{book_sound, call_tells}
use Rattle.admission.proofs.Admitting.{kept_on_rows}
use Rattle.admission.proofs.Asking.{asked_right}
use Rattle.admission.proofs.ask.ask_step.Goals as goal
use Rattle.admission.proofs.ask.ask_step.Goals.{In_ok-check_call}

-- the call passes its checks
passes : (c : In_ok-check_call) → let a = c.args in None (call_question (network_in a.network.now) a.book a.t a.ends.start a.ends.goal)
passes c =
    let a = c.args in
    sound_none (call_question (network_in a.network.now) a.book a.t a.ends.start a.ends.goal) c.in_ok-check_call.was c.check_call.ensures.judged

pub returns-in_err-check_call : goal.returns-in_err-check_call
returns-in_err-check_call c =
    let a = c.args in
    let p = err_from_is_err_and c.from_residual.result c.from_residual.ensures.1 in
    let of_call = call_question (network_in a.network.now) a.book a.t a.ends.start a.ends.goal in
    rw (p.1, p.2) (record { fits = refused_first of_call c.in_err-check_call.was c.check_call.ensures.judged; right = tt })

pub bounds-rows-ends : goal.bounds-rows-ends
bounds-rows-ends c =
    let a = c.args in
    let sound = passes (goal.at.bounds-rows-ends c).In_ok-check_call in
    let move = call_tells (network_in a.network.now) a.book a.t a.ends.start a.ends.goal sound in
    omega (arith, move.few_nodes, move.goal_open.numbered)

pub lowest_blocking-slot-requires : goal.lowest_blocking-slot-requires
lowest_blocking-slot-requires c =
    let a = c.args in
    let sound = passes (goal.at.lowest_blocking-slot-requires c).In_ok-check_call in
    let forgot = c.forget-standing.ensures in
    let whole = book_sound (network_in a.network.now) a.book a.t a.ends.start a.ends.goal sound in
    rw forgot.forgets (kept_on_rows a.book forgot.so_many whole a.book.dwell a.t)

pub returns : goal.returns
returns c =
    let a = c.args in
    let sound = passes (goal.at.returns c).In_ok-check_call in
    let rows = c.check_call.ensures.rows c.in_ok-check_call.was in
    let forgot = c.forget-standing.ensures in
    let low = rw forgot.forgets at c.lowest_blocking-slot.ensures in
    record { fits = sound; right = asked_right (network_in a.network.now) a.book a.t a.ends.start a.ends.goal forgot.so_many sound _ rows low }
