use Rattle.std.proofs.Common.{◌≡◌, length, vec_len, refl, sym, ap, ◌∙◌, subst, arith}
use Rattle.pch_region.specs.Blocks.{words_of}
use Rattle.pch_region.specs.Places.{blocks_in, EachEndsBy, IsInOrder}
use Rattle.pch_region.proofs.CloseLemmas.{closing_none, closed_ends, closed_order, closed_blocks, closed_words}
use Rattle.pch_region.proofs.closing.close.Goals as goal

pub loop-i-init : goal.loop-i-init
loop-i-init c = record {
  closing = closing_none c.args.order.now.items c.args.slots.now.items (length c.args.run.now.items) c.requires.ends c.requires.in_order;
  blocks = refl;
  run_len = refl;
  order_len = refl;
  slots_len = refl;
  run_capacity = refl;
  order_capacity = refl;
}

pub returns-clause-ends : goal.returns-clause-ends
returns-clause-ends c =
    let counted : vec_len c.args.order.now ≡ length c.args.order.now.items = c.args.order.now.ok.0 in
    let end = c.len-i-end.ensures in
    let passed = c.loop-i-test.false in
    let few = c.loop-i.auto.i-end in
    let long = c.loop-i.invariant.order_len in
    let fewer = c.loop-i.invariant.closing.fewer in
    subst (λ r. EachEndsBy (length r) c.loop-i.slots.items) (sym c.truncate.ensures.items)
    (closed_ends c.loop-i.run.items c.loop-i.order.items c.loop-i.slots.items c.loop-i.i c.loop-i.front.to c.loop-i.front.kept
    c.loop-i.invariant.closing (omega arith) (omega arith))

pub returns-clause-in_order : goal.returns-clause-in_order
returns-clause-in_order c =
    let counted : vec_len c.args.order.now ≡ length c.args.order.now.items = c.args.order.now.ok.0 in
    let end = c.len-i-end.ensures in
    let passed = c.loop-i-test.false in
    let few = c.loop-i.auto.i-end in
    let long = c.loop-i.invariant.order_len in
    let fewer = c.loop-i.invariant.closing.fewer in
    subst (λ o. IsInOrder o c.loop-i.slots.items) (sym c.truncate-2.ensures.items)
    (closed_order c.loop-i.run.items c.loop-i.order.items c.loop-i.slots.items c.loop-i.i c.loop-i.front.to c.loop-i.front.kept
    c.loop-i.invariant.closing (omega arith) (omega arith))

pub returns-clause-blocks : goal.returns-clause-blocks
returns-clause-blocks c =
    let counted : vec_len c.args.order.now ≡ length c.args.order.now.items = c.args.order.now.ok.0 in
    let end = c.len-i-end.ensures in
    let passed = c.loop-i-test.false in
    let long = c.loop-i.invariant.order_len in
    ap (λ r. blocks_in r c.loop-i.slots.items) c.truncate.ensures.items
    ∙ closed_blocks c.loop-i.run.items c.loop-i.order.items c.loop-i.slots.items c.loop-i.i c.loop-i.front.to c.loop-i.front.kept
    c.loop-i.invariant.closing (omega arith)
    ∙ c.loop-i.invariant.blocks

pub returns-clause-words : goal.returns-clause-words
returns-clause-words c =
    let counted : vec_len c.args.order.now ≡ length c.args.order.now.items = c.args.order.now.ok.0 in
    let end = c.len-i-end.ensures in
    let passed = c.loop-i-test.false in
    let long = c.loop-i.invariant.order_len in
    ap length c.truncate.ensures.items
    ∙ closed_words c.loop-i.run.items c.loop-i.order.items c.loop-i.slots.items c.loop-i.i c.loop-i.front.to c.loop-i.front.kept
    c.loop-i.invariant.closing (omega arith)
    ∙ ap words_of c.loop-i.invariant.blocks
