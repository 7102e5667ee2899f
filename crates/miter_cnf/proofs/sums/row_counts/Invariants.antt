use Rattle.std.proofs.Common.{◌≡◌, length, map, take}
use Rattle.net_defs.specs.Networks.{Node}
use Rattle.miter_cnf.proofs.sums.row_counts.Given as goal

-- the counts so far are those of the nodes
abbrev pub invariant-loop-v : goal.invariant-loop-v
invariant-loop-v l = l.counts.items ≡ map (λ (node : Node). length node.rows) (take l.v l.net.nodes)
