use Rattle.std.proofs.Common.{◌<◌, length, subst, arith}
use Rattle.std.proofs.lemmas.List.{get_or_read}
use Rattle.net_defs.specs.Networks.{Node, no_node}
use Rattle.net_defs.specs.Alignments.{IsMovedNode}
use Rattle.netlist.proofs.ZipLemmas.{all_zip-more}
use Rattle.netlist.proofs.moves.Moves.nodes.Goals as goal

-- one node more has its fan-ins moved
pub loop-node-preserved : goal.loop-node-preserved
loop-node-preserved c = λ places h.
    let nodes = c.args.nodes.now in
    let v = c.loop-node.node-index in
    let lt : v < length nodes = omega arith in
    let made = c.in_ok-node.field-0 in
    let P : Node → Type 0 = λ n. IsMovedNode places n made in
    rw c.in_ok-push.ensures.items
    (all_zip-more (IsMovedNode places) nodes c.loop-node.moved.items v no_node made lt (c.loop-node.invariant places h)
    (subst P (get_or_read nodes v c.node-item.result lt c.node-item.is no_node) (c.in_ok-node.ensures places h)))
