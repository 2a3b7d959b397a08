-- The list is zeroed before the move is checked, so the house path of a sound move is laid into zeros.
use Rattle.std.proofs.Common.{refl, arith}
use Rattle.std.proofs.lemmas.Result.{err_from_is_err_and}
use Rattle.hall.specs.Floor.{Network, network_in}
use Rattle.hall.specs.Questions.{move_question}
use Rattle.path.proofs.Housing.{left_refused, left_accepted, house_laid}
use Rattle.path.proofs.house.Goals as goal

pub returns-in_err-check_reached : goal.returns-in_err-check_reached
returns-in_err-check_reached c =
    let N : Network = network_in c.args.network.now in
    let p = err_from_is_err_and c.from_residual.result c.from_residual.ensures.1 in
    rw (p.1, p.2)
    (record {
      given =
          left_refused (move_question N c.args.ends.start c.args.ends.goal) N
          c.args.ends.start c.args.ends.goal c.args.path.now (omega (arith, c.if-path-lt-NODES.false))
          (omega arith) refl c.in_err-check_reached.ensures c.fill_first.ensures;
      network_kept = refl;
    })

pub returns : goal.returns
returns c =
    let N : Network = network_in c.args.network.now in
    let reached = c.in_ok-check_reached.ensures in
    let e = reached.2 in
    let laid = rw e at (c.lay-count.ensures c.args.network.now.closed.now (rw e reached.1)) in
    record {
      given =
          left_accepted _ N c.args.ends.start c.args.ends.goal c.args.path.now
          (omega (arith, c.if-path-lt-NODES.false)) reached.0 (house_laid c.args.path.now c.fill_first.ensures laid);
      network_kept = refl;
    }
