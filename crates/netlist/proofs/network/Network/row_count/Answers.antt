use Rattle.std.proofs.Common.{length, arith, ap}
use Rattle.netlist.proofs.RowLemmas.{rows_fit}
use Rattle.netlist.proofs.network.Network.row_count.Goals as goal

-- one node has no more rows than all nodes may have
pub overflow_cast-count : goal.overflow_cast-count
overflow_cast-count c =
    let small = rows_fit c.args.self.now c.nodes-node-items.result.now c.loop-node.node-index c.node-item.result c.requires c.nodes-node-items.ensures (omega arith) c.node-item.is in
    let e = ap length c.rows.ensures in
    omega (arith, small, e)

-- nor have the nodes up to this one
pub overflow_add-count : goal.overflow_add-count
overflow_add-count c =
    let small = rows_fit c.args.self.now c.nodes-node-items.result.now c.loop-node.node-index c.node-item.result c.requires c.nodes-node-items.ensures (omega arith) c.node-item.is in
    let e = ap length c.rows.ensures in
    omega (arith, small, e, c.loop-node.invariant)
