use Rattle.std.proofs.Common.{◌≡◌, ◌∙◌, length, inl, inr, subst, arith}
use Rattle.std.proofs.lemmas.Bool.{cases_lt}
use Rattle.trace_places.specs.Others.{place_in}
use Rattle.trace_places.specs.Places.{IsMoved}
use Rattle.trace_places.proofs.MoveLemmas.{moved_still, all_moved}
use Rattle.trace_places.proofs.places.make_room.Goals as goal

-- what one more slot has stands in the new slots or in the map
pub loop-slot-preserved : goal.loop-slot-preserved
loop-slot-preserved c = record {
  slots = c.move_slot.ensures.slots;
  some = let some = c.loop-slot.invariant.some in let same = c.move_slot.ensures.count in omega arith;
  within = c.move_slot.ensures.within;
  mapped = c.move_slot.ensures.mapped;
  all = λ x p e. c.move_slot.ensures.all x p (c.loop-slot.invariant.all x p e);
  moved = λ s lt. elim (cases_lt s c.loop-slot.slot) [
    | inl before ↦
        moved_still c.args.indices.now c.args.groups.now.numbers.items
        c.loop-slot.more.count c.loop-slot.more.tags.items c.loop-slot.more.numbers.items (place_in c.loop-slot.others)
        c.move_slot.new.more.count c.move_slot.new.more.tags.items c.move_slot.new.more.numbers.items (place_in c.move_slot.new.others) s
        c.move_slot.ensures.kept c.move_slot.ensures.all (c.loop-slot.invariant.moved s before)
    | inr at ↦
        let here : c.loop-slot.slot ≡ s = omega arith in
        subst (IsMoved c.args.indices.now c.args.groups.now.numbers.items c.move_slot.new.more.count c.move_slot.new.more.tags.items
        c.move_slot.new.more.numbers.items (place_in c.move_slot.new.others)) here (c.in_ok-move_slot.ensures {u = tt}).moved
  ];
}

-- all slots were moved
pub returns-clause-kept : goal.returns-clause-kept
returns-clause-kept c =
    let len : c.len-slot-end.result ≡ length c.args.groups.now.numbers.items = c.len-slot-end.ensures ∙ c.args.groups.now.numbers.ok.0 in
    let done = c.loop-slot-test.false in
    all_moved c.args.indices.now c.args.groups.now.count c.args.groups.now.tags.items c.args.groups.now.numbers.items
    c.loop-slot.more.count c.loop-slot.more.tags.items c.loop-slot.more.numbers.items (place_in c.loop-slot.others)
    c.len-slot-end.result len (λ s lt. c.loop-slot.invariant.moved s (omega arith))
