use Rattle.std.proofs.Common.{◌≡◌, length, map, take}
use Rattle.net_defs.specs.Networks.{Node}
use Rattle.netlist.proofs.network.Network.pin_counts.Given as goal

-- there is the number of fan-ins of each node so far
abbrev pub invariant-loop-node : goal.invariant-loop-node
invariant-loop-node l = l.counts.items ≡ map (λ (node : Node). length node.fan_ins) (take l.node-index l.nodes)
