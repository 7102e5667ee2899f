use Rattle.std.proofs.Common.{length, refl, sym, ap, ◌∙◌}
use Rattle.std.proofs.lemmas.List.{get_or_read}
use Rattle.pch_region.specs.Places.{place_of, own_place}
use Rattle.pch_region.proofs.ShiftLemmas.{shifted_none, shifted_closing, shifted_length, shifted_same}
use Rattle.pch_region.proofs.closing.shift.Goals as goal

pub returns-in-Some-clause-closing : goal.returns-in-Some-clause-closing
returns-in-Some-clause-closing c =
    shifted_closing c.args.order.now.items c.args.slots.now.items (length c.args.run.now.items) c.args.i c.args.front.to c.args.front.kept
    c.index-name.result.now c.requires.closing c.requires.there
    (get_or_read c.args.order.now.items c.args.i c.index-name.result.now c.requires.there c.index-name.ensures 0)
    c.in-Some.p
    (ap (λ s. own_place c.args.i (place_of s c.index-name.result.now)) (sym c.deref.ensures.value) ∙ sym c.in-Some.ensures)
    c.args.run.now.items c.move_down.new.run.items refl c.move_down.ensures.run

pub returns-in-Some-clause-blocks : goal.returns-in-Some-clause-blocks
returns-in-Some-clause-blocks c =
    shifted_same c.args.order.now.items c.args.slots.now.items (length c.args.run.now.items) c.args.i c.args.front.to c.args.front.kept
    c.index-name.result.now c.requires.closing c.requires.there
    (get_or_read c.args.order.now.items c.args.i c.index-name.result.now c.requires.there c.index-name.ensures 0)
    c.in-Some.p
    (ap (λ s. own_place c.args.i (place_of s c.index-name.result.now)) (sym c.deref.ensures.value) ∙ sym c.in-Some.ensures)
    c.args.run.now.items c.move_down.new.run.items refl c.move_down.ensures.run

pub returns-in-Some-clause-run_len : goal.returns-in-Some-clause-run_len
returns-in-Some-clause-run_len c =
    shifted_length c.args.order.now.items c.args.slots.now.items (length c.args.run.now.items) c.args.i c.args.front.to c.args.front.kept
    c.index-name.result.now c.requires.closing c.requires.there
    (get_or_read c.args.order.now.items c.args.i c.index-name.result.now c.requires.there c.index-name.ensures 0)
    c.in-Some.p
    (ap (λ s. own_place c.args.i (place_of s c.index-name.result.now)) (sym c.deref.ensures.value) ∙ sym c.in-Some.ensures)
    c.args.run.now.items c.move_down.new.run.items refl c.move_down.ensures.run

pub returns-in-None-clause-closing : goal.returns-in-None-clause-closing
returns-in-None-clause-closing c =
    shifted_none c.args.order.now.items c.args.slots.now.items (length c.args.run.now.items) c.args.i c.args.front.to c.args.front.kept
    c.index-name.result.now c.requires.closing c.requires.there
    (get_or_read c.args.order.now.items c.args.i c.index-name.result.now c.requires.there c.index-name.ensures 0)
    (ap (λ s. own_place c.args.i (place_of s c.index-name.result.now)) (sym c.deref.ensures.value) ∙ sym c.in-None.ensures)
