-- `admission::checks::check_call` meets its contract: 16 and 14, then those of the network and the move, then
-- 17, each by the promise of the function that checks them. Assumes nothing.
use Rattle.std.proofs.Common.{[], ◌∷◌, refl}
use Rattle.std.proofs.lemmas.Result.{err_from_is_err_and}
use Rattle.hall.specs.declared.Fault.TheVariants.{Unreachable}
use Rattle.hall.specs.Floor.{NoWalk, network_in, floor}
use Rattle.hall.specs.Stages.{None, asked}
use Rattle.hall.specs.Questions.{move_ends, move_question}
use Rattle.hall.proofs.Compose.{sound_none, refused_first, first_before, first_after, not_both}
use Rattle.hall.proofs.Places.{none_asked}
use Rattle.slots.specs.Refusals.{bad_slot}
use Rattle.slots.specs.Questions.{book_question}
use Rattle.admission.specs.Questions.{stale_slots}
use Rattle.admission.proofs.SoundCall.{move_tells}
use Rattle.admission.proofs.checks.check_call.Goals as goal
use Rattle.admission.proofs.checks.check_call.Goals.{In_ok-check_book}

-- the book and the clock value pass
passes : (c : In_ok-check_book) → None (book_question c.args.book.now c.args.t)
passes c = sound_none (book_question c.args.book.now c.args.t) c.in_ok-check_book.was c.check_book.ensures.judges

pub returns-in_err-check_move : goal.returns-in_err-check_move
returns-in_err-check_move c =
    let a = c.args in
    let N = network_in a.network.now in
    let b = a.book.now in
    let e = c.from_residual-in_err-check_move in
    let p = err_from_is_err_and e.result e.ensures.1 in
    let book = passes (goal.at.returns-in_err-check_move c).In_ok-check_book in
    let first = refused_first (move_ends N a.ends.start a.ends.goal) c.in_err-check_move.was c.check_move.ensures in
    let of_walk = asked Unreachable 0 (NoWalk (floor N) a.ends.start a.ends.goal) ∷ [] in
    let of_slots = stale_slots N b.dwell a.t b.slots ∷ [] in
    rw (p.1, p.2) (record { judged = first_after book (first_before of_slots (first_before of_walk first)); rows = λ e. absurd (not_both refl e) })

pub returns-in_err-check_walk : goal.returns-in_err-check_walk
returns-in_err-check_walk c =
    let a = c.args in
    let N = network_in a.network.now in
    let b = a.book.now in
    let e = c.from_residual-in_err-check_walk in
    let p = err_from_is_err_and e.result e.ensures.1 in
    let book = passes (goal.at.returns-in_err-check_walk c).In_ok-check_book in
    let first = refused_first (move_question N a.ends.start a.ends.goal) c.in_err-check_walk.was c.check_walk.ensures.judged in
    let of_slots = stale_slots N b.dwell a.t b.slots ∷ [] in
    rw (p.1, p.2) (record { judged = first_after book (first_before of_slots first); rows = λ e. absurd (not_both refl e) })

pub check_held-requires : goal.check_held-requires
check_held-requires c =
    let a = c.args in
    let N = network_in a.network.now in
    let move = sound_none (move_question N a.ends.start a.ends.goal) c.in_ok-check_walk.was c.check_walk.ensures.judged in
    let book = passes (goal.at.check_held-requires c).In_ok-check_book in
    ((move_tells N a.ends.start a.ends.goal move).few_nodes, (λ bad. (none_asked book).0 (bad_slot bad)), c.check_book.ensures.so_many)
