-- `slots::forget` meets its contract: each turn changes one slot more, and after the last all are as they are
-- to be. Assumes nothing.
use Rattle.std.proofs.Common.{◌≡◌, List, ℕ, ◌+◌, ◌<◌, ◌∙◌, ap, length, get_or, arith}
use native.Mathlib.Numerals.{add-one}
use lib.ListN.{set}
use Rattle.slots.specs.declared.Slot.{Slot}
use Rattle.slots.specs.Record.{free, forgotten, forgetting, book_with}
use Rattle.slots.proofs.Lists.{doneTo, done_step, done_all}
use Rattle.slots.proofs.forget.Goals as goal

-- one slot more
one_more : (w clock i : ℕ) (slots left : List Slot) (new : Slot) → i < length slots → left ≡ doneTo (forgotten w clock) i slots
    → new ≡ forgotten w clock (get_or left i free) → set left i new ≡ doneTo (forgotten w clock) (i + 1) slots
one_more w clock i slots left new l e n = rw (add-one, n, e) (done_step (forgotten w clock) i slots free l)

-- all of them
whole : (w clock i : ℕ) (slots left : List Slot) → i ≡ length slots → left ≡ doneTo (forgotten w clock) i slots → left ≡ forgetting w clock slots
unfolding forgetting
whole w clock i slots left l e = e ∙ ap (λ (k : ℕ). doneTo (forgotten w clock) k slots) l ∙ done_all (forgotten w clock) slots

pub loop-slot-preserved : goal.loop-slot-preserved
loop-slot-preserved c =
    let book = c.args.book.now in
    one_more book.dwell c.args.clock c.loop-slot.slot-index book.slots c.loop-slot.slot-items c.kept.result (omega arith) c.loop-slot.invariant c.kept.ensures

pub returns-clause-forgets : goal.returns-clause-forgets
returns-clause-forgets c =
    let book = c.args.book.now in
    rw c.with_slots.ensures (ap (book_with c.args.clock book.dwell) (whole book.dwell c.args.clock c.loop-slot.slot-index book.slots c.loop-slot.slot-items (omega arith) c.loop-slot.invariant))
