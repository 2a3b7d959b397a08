-- What the tests leave is what is served.
use Rattle.std.proofs.Common.{arith}
use Rattle.hall.specs.Floor.{network_in}
use Rattle.tables.proofs.Blocks.{served_by}
use Rattle.tables.proofs.fill.Goals as goal

pub fill_all-requires : goal.fill_all-requires
fill_all-requires c =
    served_by (network_in c.args.network.now) c.args.moves.now (omega arith) (omega arith) (omega arith) c.if-not-all_nodes.ensures
