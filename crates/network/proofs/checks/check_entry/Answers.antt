-- 4, 5 and 13 as `check_ends` answers of the two numbers that are read: what is asked of two numbers is asked of
-- the move whose numbers they are.
use Rattle.std.proofs.Common.{◌≡◌, subst, List, ℕ, ◌<◌, Result}
use Rattle.hall.specs.declared.Refusal.{Refusal}
use Rattle.hall.specs.Job.{move_count, start_in, goal_in}
use Rattle.hall.specs.Stages.{only_at}
use Rattle.hall.specs.Said.{Judged}
use Rattle.hall.specs.Questions.{ends, move_checks, each_move}
use Rattle.hall.proofs.Compose.{⇒-judged}
use Rattle.network.proofs.Questions.{each_inside}
use Rattle.network.proofs.checks.check_entry.Goals as goal

of-the-move : (nodes : ℕ) (closed moves : List ℕ) (i start goal : ℕ) (c : Result Unit Refusal) →
    i < move_count moves → start ≡ start_in moves i → goal ≡ goal_in moves i →
    Judged (only_at i (ends nodes closed (λ p. start) (λ p. goal))) c →
    Judged (only_at i (each_move nodes closed moves)) c
of-the-move nodes closed moves i start goal c inside s g h =
    ⇒-judged (each_inside (move_checks nodes closed moves) inside) c
    (subst (λ (b : ℕ). Judged (only_at i (ends nodes closed (λ p. start_in moves i) (λ p. b))) c) g
    (subst (λ (a : ℕ). Judged (only_at i (ends nodes closed (λ p. a) (λ p. goal))) c) s h))

pub returns : goal.returns
returns c =
    of-the-move c.args.nodes c.args.closed.now c.args.moves.now c.args.i c.number_at-start.result
    c.number_at-goal.result
    c.check_ends.result
    c.if-i-moves.false
    c.number_at-start.ensures
    c.number_at-goal.ensures
    c.check_ends.ensures
