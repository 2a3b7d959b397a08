-- Counts mean that the text is the written form of the job whose numbers stand in front of the tables, and
-- the answer for this job is handed on; the tables that are lent to reading have their least lengths, so a
-- refusal is the text's, and is printed.
use Rattle.std.proofs.Common.{◌*◌, ◌≤◌, length, sym, arith}
use Rattle.std.proofs.lemmas.List.{length-take-le}
use Rattle.report.proofs.ReadBack.{ReadBack, job_back, refusal_back, job_answers, refused_answers}
use Rattle.report.proofs.answer.Goals as goal
use Rattle.report.proofs.answer.Goals.{In-Ok}

-- the job that was read
read_back : (c : In-Ok) →
    let left = c.read_numbers.new in
    ReadBack c.args.text.now left.lanes left.closed left.moves left.order c.in-Ok.counts
read_back c = job_back _ _ _ _ _ c.in-Ok.is c.read_numbers.ensures

-- the tables are as long as they came
long_lanes : (c : In-Ok) → 2 * c.in-Ok.counts.lanes ≤ length c.read_numbers.new.lanes
long_lanes c = omega (arith, (read_back c).few_lanes)

long_closed : (c : In-Ok) → c.in-Ok.counts.closed ≤ length c.read_numbers.new.closed
long_closed c = omega (arith, (read_back c).few_closed)

long_moves : (c : In-Ok) → 2 * c.in-Ok.counts.carriers ≤ length c.read_numbers.new.moves
long_moves c = omega (arith, (read_back c).few_carriers)

long_order : (c : In-Ok) → c.in-Ok.counts.carriers ≤ length c.read_numbers.new.order
long_order c = omega (arith, (read_back c).few_carriers)

pub overflow_mul-lanes : goal.overflow_mul-lanes
overflow_mul-lanes c = omega (arith, (read_back (goal.at.overflow_mul-lanes c).In-Ok).few_lanes)

pub overflow_mul-moves : goal.overflow_mul-moves
overflow_mul-moves c = omega (arith, (read_back (goal.at.overflow_mul-moves c).In-Ok).few_carriers)

pub slice_bounds-lanes-end : goal.slice_bounds-lanes-end
slice_bounds-lanes-end c = long_lanes (goal.at.slice_bounds-lanes-end c).In-Ok

pub slice_bounds-job-end : goal.slice_bounds-job-end
slice_bounds-job-end c = sym (length-take-le _ _ (long_lanes (goal.at.slice_bounds-job-end c).In-Ok))

pub slice_bounds-closed-end : goal.slice_bounds-closed-end
slice_bounds-closed-end c = long_closed (goal.at.slice_bounds-closed-end c).In-Ok

pub slice_bounds-job-end-in-Ok : goal.slice_bounds-job-end-in-Ok
slice_bounds-job-end-in-Ok c =
    sym (length-take-le _ _ (long_closed (goal.at.slice_bounds-job-end-in-Ok c).In-Ok))

pub slice_bounds-moves-end : goal.slice_bounds-moves-end
slice_bounds-moves-end c = long_moves (goal.at.slice_bounds-moves-end c).In-Ok

pub slice_bounds-job-end-in-Ok-2 : goal.slice_bounds-job-end-in-Ok-2
slice_bounds-job-end-in-Ok-2 c =
    sym (length-take-le _ _ (long_moves (goal.at.slice_bounds-job-end-in-Ok-2 c).In-Ok))

pub slice_bounds-order-end : goal.slice_bounds-order-end
slice_bounds-order-end c = long_order (goal.at.slice_bounds-order-end c).In-Ok

pub slice_bounds-job-end-in-Ok-3 : goal.slice_bounds-job-end-in-Ok-3
slice_bounds-job-end-in-Ok-3 c =
    sym (length-take-le _ _ (long_order (goal.at.slice_bounds-job-end-in-Ok-3 c).In-Ok))

pub answer_job-requires : goal.answer_job-requires
answer_job-requires c = (read_back (goal.at.answer_job-requires c).In-Ok).writes.sound

pub returns-in-Ok : goal.returns-in-Ok
returns-in-Ok c = job_answers (read_back (goal.at.returns-in-Ok c).In-Ok) c.answer_job.ensures

pub returns-in-Err : goal.returns-in-Err
returns-in-Err c =
    let refusal =
    refusal_back c.args.text.now _ _ _ _ _ _ _ _ (omega arith) (omega arith) (omega arith) (omega arith)
    c.in-Err.is c.read_numbers.ensures in
    refused_answers refusal (rw c.number.ensures at c.print_refused.ensures)
