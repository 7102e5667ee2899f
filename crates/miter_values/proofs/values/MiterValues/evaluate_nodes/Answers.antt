use Rattle.std.proofs.Common.{◌+◌, [], get_or, take, refl, ◌∙◌, subst}
use Rattle.net_defs.specs.Orders.{IsOrder}
use Rattle.miter_cnf.specs.Circuits.{Circuits}
use Rattle.miter_values.specs.Parts.{circuits_of, IsOfNode, IsOfNodes, IsOfSomeNode}
use Rattle.miter_values.proofs.GrowLemmas.{grows_none, grows_both, grows_as}
use Rattle.miter_values.proofs.NodeLemmas.{order_known, order_fresh, nodes_more, nodes_all}
use Rattle.miter_values.proofs.values.MiterValues.evaluate_nodes.Goals as goal

pub loop-v-init : goal.loop-v-init
loop-v-init c =
    grows_none (circuits_of c.args.self.now.net c.args.self.now.cells) c.args.e.now (IsOfNodes c.args.self.now.net []) c.requires.valued.evaluated
    (λ u h. h.1)

pub evaluate_node-requires-clause-valued : goal.evaluate_node-requires-clause-valued
evaluate_node-requires-clause-valued c = record {
  evaluated = c.loop-v.invariant.evaluated;
  places = c.loop-v.invariant.places ∙ c.requires.valued.places;
}

pub evaluate_node-requires-clause-known : goal.evaluate_node-requires-clause-known
evaluate_node-requires-clause-known c =
    let net = c.args.self.now.net in
    let order = c.order-v-items.result.now in
    let is_order = subst (λ (t : Circuits). IsOrder t.net order) c.self.view_is c.order-v-items.ensures.order in
    order_known net order (circuits_of net c.args.self.now.cells) c.args.e.now c.loop-v.e c.loop-v.v-index (get_or order c.loop-v.v-index 0) is_order c.loop-v-test.true refl
    c.loop-v.invariant c.requires.inputs c.requires.fresh

pub evaluate_node-requires-clause-fresh : goal.evaluate_node-requires-clause-fresh
evaluate_node-requires-clause-fresh c =
    let net = c.args.self.now.net in
    let order = c.order-v-items.result.now in
    let is_order = subst (λ (t : Circuits). IsOrder t.net order) c.self.view_is c.order-v-items.ensures.order in
    order_fresh net order (circuits_of net c.args.self.now.cells) c.args.e.now c.loop-v.e c.loop-v.v-index (get_or order c.loop-v.v-index 0) is_order c.loop-v-test.true refl
    c.loop-v.invariant c.requires.inputs c.requires.fresh

pub loop-v-preserved : goal.loop-v-preserved
loop-v-preserved c =
    let net = c.args.self.now.net in
    let order = c.order-v-items.result.now in
    let v = get_or order c.loop-v.v-index 0 in
    grows_both (circuits_of net c.args.self.now.cells) c.args.e.now c.loop-v.e c.evaluate_node.new.e (IsOfNodes net (take c.loop-v.v-index order)) (IsOfNode net v)
    (IsOfNodes net (take (c.loop-v.v-index + 1) order)) c.loop-v.invariant c.evaluate_node.ensures (λ u. nodes_more net order c.loop-v.v-index v u c.loop-v-test.true refl)

pub returns : goal.returns
returns c =
    let net = c.args.self.now.net in
    let order = c.order-v-items.result.now in
    let is_order = subst (λ (t : Circuits). IsOrder t.net order) c.self.view_is c.order-v-items.ensures.order in
    grows_as (circuits_of net c.args.self.now.cells) c.args.e.now c.loop-v.e (IsOfNodes net (take c.loop-v.v-index order)) (IsOfSomeNode net) c.loop-v.invariant
    (λ u. nodes_all net order c.loop-v.v-index u is_order c.loop-v-test.false)
