-- A walk and its copies in three blocks, put together by `node_filled`.
use Rattle.hall.specs.Floor.{network_in}
use Rattle.walk.proofs.WalkRow.{rowed_served}
use Rattle.tables.proofs.Blocks.{node_filled}
use Rattle.tables.proofs.fill_node.Goals as goal

pub returns : goal.returns
returns c =
    let served = c.requires.0 in
    node_filled (network_in c.args.network.now) c.args.moves.now c.args.node served.few_carriers served.numbered
    (rowed_served (record { few = served.few_nodes; numbered = c.requires.1; wide = served.few_nodes }) c.distances.ensures).1
    c.copy_rows.ensures
    c.copy_rows-2.ensures
    c.copy_rows-3.ensures
