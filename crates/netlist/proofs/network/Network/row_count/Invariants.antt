use Rattle.std.proofs.Common.{◌≡◌, length, take, sum_by}
use Rattle.net_defs.specs.Networks.{Node}
use Rattle.netlist.proofs.network.Network.row_count.Given as goal

-- the rows of the nodes so far are counted
abbrev pub invariant-loop-node : goal.invariant-loop-node
invariant-loop-node l = l.count ≡ sum_by (λ (node : Node). length node.rows) (take l.node-index l.node-items)
