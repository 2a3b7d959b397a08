-- A refusal of the move is the list's. Otherwise the move has no fault, and the row is downhill. The list's length
-- is held to the distance that the row has for the start, its nodes to the row, where no closed node has a distance,
-- and its steps to the lanes: all three hold exactly if the list is a shortest path.
use Rattle.std.proofs.Common.{refl}
use Rattle.std.proofs.lemmas.Result.{err_from_is_err_and}
use Rattle.hall.proofs.Compose.{first_before}
use Rattle.path.proofs.Listed.{list_passes, list_unfit}
use Rattle.path.proofs.judge.Goals as goal
use Rattle.path.proofs.judge.Goals.{else-list-whole-via-then-list-whole+then-all_on_way+else-walks}
use Rattle.path.proofs.judge.Goals.{else-list-whole-via-then-list-whole+else-all_on_way}
use Rattle.path.proofs.judge.Goals.{else-list-whole-via-else-list-whole}

pub returns-in_err-check_reached : goal.returns-in_err-check_reached
returns-in_err-check_reached c =
    let p = err_from_is_err_and c.from_residual.result c.from_residual.ensures.1 in
    rw (p.1, p.2)
    (record { judged = first_before _ c.in_err-check_reached.ensures; network_kept = refl; list_kept = refl })

pub returns-then-walks : goal.returns-then-walks
returns-then-walks c =
    let reached = c.in_ok-check_reached.ensures in
    record {
      judged =
          list_passes _ _ _ _ reached.0 reached.1 c.if-list-whole.true
          (rw reached.2 at c.if-all_on_way.ensures) c.if-walks.ensures;
      network_kept = refl;
      list_kept = refl;
    }

pub returns : goal.returns
returns c =
    let reached = c.in_ok-check_reached.ensures in
    rw c.new.ensures
    (record {
      judged =
          list_unfit _ _ _ _ reached.0 reached.1
          (λ h. elim c.else-list-whole.branch [
            | else-list-whole-via-then-list-whole+then-all_on_way+else-walks w ↦ w.if-walks.ensures h.2
            | else-list-whole-via-then-list-whole+else-all_on_way w ↦ w.if-all_on_way.ensures (rw reached.2 h.1)
            | else-list-whole-via-else-list-whole w ↦ w.if-list-whole.false h.0
          ]);
      network_kept = refl;
      list_kept = refl;
    })
