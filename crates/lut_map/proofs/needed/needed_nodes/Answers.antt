use Rattle.std.proofs.Common.{◌≡◌, ℕ, ◌+◌, ◌-◌, ◌<◌, ◌↔◌, ◌⊎◌, ◌∙◌, false, List, sym, subst, arith, length, get_or, replicate}
use Rattle.std.proofs.lemmas.List.{get_or_read, length-replicate}
use Rattle.clause_defs.specs.Clauses.{Has}
use Rattle.net_defs.specs.Evaluation.{output_signals}
use Rattle.lut_map.specs.Marks.{IsMarked}
use Rattle.lut_map.proofs.MarkLemmas.{IsSwept, output_signal-read, marked_more, swept_more, swept_all}
use Rattle.lut_map.proofs.needed.needed_nodes.Goals as goal

pub mark_node-requires : goal.mark_node-requires
mark_node-requires c =
    let net = c.args.net.now in
    let read = output_signal-read net c.loop-o.o c.output_signal.result c.inputs-inputs.ensures.net
    (omega (arith, c.outputs-o-end.ensures.count)) c.output_signal.ensures in
    omega (arith, read.within, c.inputs-inputs.ensures.count, c.loop-o.invariant.count, length-replicate (length net.nodes) false)

pub loop-o-preserved : goal.loop-o-preserved
loop-o-preserved c =
    let net = c.args.net.now in
    let s = c.output_signal.result in
    let read = output_signal-read net c.loop-o.o s c.inputs-inputs.ensures.net
    (omega (arith, c.outputs-o-end.ensures.count)) c.output_signal.ensures in
    let P : ℕ → Type 0 = λ n. (v : ℕ) → IsMarked c.mark_node.new.marks.items v ↔ (IsMarked c.loop-o.marks.items v ⊎ (s ≡ n + v)) in
    marked_more (length net.inputs) (replicate (length net.nodes) false) (output_signals net) c.loop-o.o s c.loop-o.marks.items c.mark_node.new.marks.items
    read.place read.read c.loop-o.invariant c.mark_node.ensures.count (subst P c.inputs-inputs.ensures.count c.mark_node.ensures.marks)

pub loop-j-preserved-then-index : goal.loop-j-preserved-then-index
loop-j-preserved-then-index c =
    let net = c.args.net.now in
    let order = c.order-order.result.now in
    let j : ℕ = c.loop-j.j - 1 in
    let marks = c.loop-j.marks.items in
    let lt : j < length order = omega arith in
    let v : ℕ = get_or order j 0 in
    let v_lt : v < length net.nodes = c.order-order.ensures.order.nodes.within j 0 lt in
    let after : c.loop-j.j ≡ j + 1 = omega arith in
    let S : ℕ → Type 0 = λ n. IsSwept net order n marks in
    let here = sym (get_or_read marks v c.index.result.now (omega (arith, c.loop-j.invariant.count)) c.index.ensures false) ∙ c.if-index.true in
    let P : ℕ → Type 0 = λ n. (u : ℕ) → IsMarked c.mark_nodes.new.marks.items u ↔ (IsMarked marks u ⊎ Has c.fan_ins.result.now (n + u)) in
    let Q : List ℕ → Type 0 = λ ss. (u : ℕ) → IsMarked c.mark_nodes.new.marks.items u ↔ (IsMarked marks u ⊎ Has ss (length net.inputs + u)) in
    swept_more net order j marks c.mark_nodes.new.marks.items c.order-order.ensures.order lt here (subst S after c.loop-j.invariant)
    c.mark_nodes.ensures.count (subst Q c.fan_ins.ensures (subst P c.inputs-inputs.ensures.count c.mark_nodes.ensures.marks))

pub returns-clause-needed : goal.returns-clause-needed
returns-clause-needed c =
    swept_all c.args.net.now c.order-order.result.now c.loop-j.j c.loop-j.marks.items c.order-order.ensures.order (omega arith) c.loop-j.invariant
