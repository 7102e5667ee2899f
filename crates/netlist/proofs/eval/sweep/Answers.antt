use Rattle.std.proofs.Common.{◌≡◌, ◌+◌, ◌<◌, ◌≤◌, ℕ, List, ap, sym, subst, ◌∙◌, arith, length, set, take, get_or, slice_index, refl}
use Rattle.std.proofs.lemmas.List.{length-set, get_or_read}
use Rattle.net_defs.specs.Networks.{Node, node_at, no_node, signals}
use Rattle.net_defs.specs.Evaluation.{node_bit, bits_at}
use Rattle.netlist.specs.Places.{bit_of}
use Rattle.netlist.proofs.EvalLemmas.{Swept, Swept-more, Swept-all}
use Rattle.netlist.proofs.eval.sweep.Goals as goal

-- a node whose fan-ins were swept takes its bit
pub loop-v-preserved : goal.loop-v-preserved
loop-v-preserved c =
    let net = c.args.network.now in
    let v : ℕ = slice_index c.args.order.now c.loop-v.v-index in
    let lt : c.loop-v.v-index < length c.args.order.now = omega arith in
    let places : signals net ≤ length c.loop-v.s = omega (arith, c.loop-v.invariant.places, c.requires.places) in
    let v_lt : v < length net.nodes = c.requires.order.nodes.within c.loop-v.v-index 0 lt in
    let bit : ℕ = bit_of c.bit-bit.result in
    let n_is : length net.inputs ≡ length c.inputs-inputs.result.now = ap length (sym c.inputs-inputs.ensures) in
    let node_is : c.index-nodes-v.result ≡ node_at net v =
    get_or_read c.nodes-nodes.result.now v c.index-nodes-v.result (let e = ap length c.nodes-nodes.ensures in omega arith) c.index-nodes-v.is no_node
    ∙ ap (λ l. get_or l v no_node) c.nodes-nodes.ensures in
    let bit_is : node_bit (node_at net v) (bits_at c.loop-v.s (node_at net v).fan_ins) ≡ bit =
    let P : Node → Type 0 = λ k. node_bit k (bits_at c.loop-v.s k.fan_ins) ≡ bit in subst P node_is c.bit-bit.ensures in
    let written : c.set.new.self ≡ set c.loop-v.s (length net.inputs + v) bit =
    c.set.ensures ∙ ap (λ m. set c.loop-v.s (m + v) bit) (sym n_is) in
    record {
      places = ap length c.set.ensures ∙ length-set c.loop-v.s _ _ ∙ c.loop-v.invariant.places;
      swept = λ x a settles same.
          let P : List ℕ → Type 0 = λ l. Swept net (take (c.loop-v.v-index + 1) c.args.order.now) l a in
          subst P (sym written)
          (Swept-more net c.args.order.now c.loop-v.s x a c.loop-v.v-index v bit settles c.requires.order
          (c.loop-v.invariant.swept x a settles same) lt refl places bit_is);
    }

-- so after the last node all have the bits of the assignment
pub returns-clause-complete : goal.returns-clause-complete
returns-clause-complete c = λ x a settles same.
    Swept-all c.args.network.now c.args.order.now c.loop-v.s a c.loop-v.v-index c.requires.order (c.loop-v.invariant.swept x a settles same) (omega arith)
