use Rattle.std.proofs.Common.{ℕ, List, take}
use Rattle.std.specs.List.{AllZip}
use Rattle.net_defs.specs.Alignments.{IsMovedNode}
use Rattle.netlist.specs.Moves.{IsInverse}
use Rattle.netlist.proofs.moves.Moves.nodes.Given as goal

-- the nodes so far are moved
abbrev pub invariant-loop-node : goal.invariant-loop-node
invariant-loop-node l = (places : List ℕ) → IsInverse places l.self → AllZip (IsMovedNode places) (take l.node-index l.nodes) l.moved.items
