use Rattle.std.proofs.Common.{ap, arith, rules, length, inr, refl}
use Rattle.netlist.proofs.SearchLemmas.{done_settled, finished}
use Rattle.netlist.proofs.order.order_of.Goals as goal

-- the first node that can't be settled is the cycle's
pub returns-then-not-branch : goal.returns-then-not-branch
returns-then-not-branch c =
    let s = c.loop-v.sorting in
    inr (
      c.loop-v.v,
      refl,
      record {
        within = omega (arith, ap length c.nodes.ensures);
        earlier = λ u lt. done_settled c.args.network.now s.states.items s.left.items s.stack.items s.order.items u c.loop-v.invariant.sound (c.loop-v.invariant.done u lt);
        here = λ settled. c.in_ok-settle.ensures.unsettled (search rules) _ settled;
      },
    )

-- where all nodes are closed, they stand in order
pub returns : goal.returns
returns c =
    let s = c.loop-v.sorting in
    rw c.into_order.ensures
    (finished c.args.network.now s.states.items s.left.items s.stack.items s.order.items c.loop-v.invariant.sound c.loop-v.invariant.empty (λ u lt. c.loop-v.invariant.done u (omega (arith, ap length c.nodes.ensures))))
