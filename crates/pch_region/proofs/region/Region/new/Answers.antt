use Rattle.std.proofs.Common.{None, ap, ◌∙◌, arith}
use Rattle.pch_region.specs.Places.{blocks_in}
use Rattle.pch_region.proofs.RegionLemmas.{blocks_new, copies_length, named_new, laid_new}
use Rattle.pch_region.proofs.region.Region.new.Goals as goal

pub invariant_of-result : goal.invariant_of-result
invariant_of-result c =
    let slots_len = copies_length c.in_ok-empty_slots.field-0.items c.args.blocks None c.in_ok-empty_slots.ensures in
    let run_room = c.in_ok-with_capacity.ensures.exact in
    let order_room = c.in_ok-with_capacity-2.ensures.exact in
    let name_room = c.in_ok-all_names.ensures.room in (
      named_new c.in_ok-all_names.field-0.items c.args.words c.args.blocks c.ranges.blocks.fits c.in_ok-all_names.ensures.names
          (blocks_in c.in_ok-with_capacity.field-0.items c.in_ok-empty_slots.field-0.items)
          (ap (blocks_in c.in_ok-with_capacity.field-0.items) c.in_ok-empty_slots.ensures ∙ blocks_new c.in_ok-with_capacity.field-0.items c.args.blocks),
      laid_new c.in_ok-with_capacity.field-0.items c.in_ok-with_capacity-2.field-0.items c.in_ok-empty_slots.field-0.items c.args.words c.args.blocks
          c.in_ok-with_capacity.ensures.items c.in_ok-with_capacity-2.ensures.items c.in_ok-empty_slots.ensures,
      omega arith,
      omega arith,
      omega arith,
    )

pub returns-clause-held : goal.returns-clause-held
returns-clause-held c = ap (blocks_in _) c.in_ok-empty_slots.ensures ∙ blocks_new _ c.args.blocks
