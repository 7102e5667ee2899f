use Rattle.std.proofs.Common.{◌≡◌, ◌-◌, length, set, take, get_or, vec_len, Some, sym, ap, ◌∙◌, arith, length-set}
use Rattle.std.proofs.lemmas.List.{get_or_read}
use Rattle.pch_region.specs.Blocks.{Blocks}
use Rattle.pch_region.specs.Places.{blocks_in}
use Rattle.pch_region.proofs.RegionLemmas.{filled, put_blocks, put_named, put_laid}
use Rattle.pch_region.proofs.region.Region.put.Goals as goal

pub invariant_of-self : goal.invariant_of-self
invariant_of-self c =
    let fewer = c.if-lits-self.false in
    let live_fits = c.self.invariant.0.fits in
    let counted : vec_len c.self.inside.unused ≡ length c.self.inside.unused.items = c.self.inside.unused.ok.0 in
    let some = filled (vec_len c.self.inside.unused) c.is_empty.result c.is_empty.ensures c.if-is_empty.false in
    let last = c.len-last.ensures in
    let last_is : c.len-last.result - 1 ≡ length c.self.inside.unused.items - 1 = omega arith in
    let read = get_or_read c.self.inside.unused.items (c.len-last.result - 1) c.index-name.result.now (omega arith) c.index-name.ensures 0 in
    let n_is = read ∙ ap (λ k. get_or c.self.inside.unused.items k 0) last_is in
    let set_len = length-set c.make_room.new.slots.items c.index-name.result.now (Some c.append-place.result) in
    let slots_len = c.make_room.ensures.slots_len in
    let run_room = c.append-place.ensures.run_room in
    let run_same = c.make_room.ensures.run_capacity in
    let run_fits = c.self.invariant.2 in
    let order_room = c.append-place.ensures.order_room in
    let order_same = c.make_room.ensures.order_capacity in
    let order_fits = c.self.invariant.3 in
    let name_room = c.truncate.ensures.capacity in
    let name_fits = c.self.invariant.4 in (
      put_named c.self.inside.run.items c.self.inside.slots.items c.self.inside.unused.items c.self.inside.words c.self.inside.live c.self.invariant.0
          c.make_room.new.run.items c.make_room.new.order.items c.make_room.new.slots.items c.make_room.ensures.laid
          c.make_room.ensures.blocks c.make_room.ensures.slots_len c.args.lits.now c.make_room.ensures.room (omega arith) (omega arith)
          c.index-name.result.now n_is c.append-place.result c.append-place.ensures.start c.append-place.ensures.len c.append-place.ensures.at
          c.append-place.new.run.items c.append-place.ensures.run
          c.truncate.new.self.items (c.truncate.ensures.items ∙ ap (λ k. take k c.self.inside.unused.items) last_is),
      put_laid c.self.inside.run.items c.self.inside.slots.items c.self.inside.unused.items c.self.inside.words c.self.inside.live c.self.invariant.0
          c.make_room.new.run.items c.make_room.new.order.items c.make_room.new.slots.items c.make_room.ensures.laid
          c.make_room.ensures.blocks c.make_room.ensures.slots_len c.args.lits.now c.make_room.ensures.room (omega arith) (omega arith)
          c.index-name.result.now n_is c.append-place.result c.append-place.ensures.start c.append-place.ensures.len c.append-place.ensures.at
          c.append-place.new.run.items c.append-place.ensures.run
          c.append-place.new.order.items c.append-place.ensures.order,
      omega arith,
      omega arith,
      omega arith,
    )

pub returns-clause-put : goal.returns-clause-put
returns-clause-put c =
    let fewer = c.if-lits-self.false in
    let live_fits = c.self.invariant.0.fits in
    let counted : vec_len c.self.inside.unused ≡ length c.self.inside.unused.items = c.self.inside.unused.ok.0 in
    let some = filled (vec_len c.self.inside.unused) c.is_empty.result c.is_empty.ensures c.if-is_empty.false in
    let last = c.len-last.ensures in
    let last_is : c.len-last.result - 1 ≡ length c.self.inside.unused.items - 1 = omega arith in
    let read = get_or_read c.self.inside.unused.items (c.len-last.result - 1) c.index-name.result.now (omega arith) c.index-name.ensures 0 in
    let n_is = read ∙ ap (λ k. get_or c.self.inside.unused.items k 0) last_is in
    put_blocks c.self.inside.run.items c.self.inside.slots.items c.self.inside.unused.items c.self.inside.words c.self.inside.live c.self.invariant.0
    c.make_room.new.run.items c.make_room.new.order.items c.make_room.new.slots.items c.make_room.ensures.laid
    c.make_room.ensures.blocks c.make_room.ensures.slots_len c.args.lits.now c.make_room.ensures.room (omega arith) (omega arith)
    c.index-name.result.now n_is c.append-place.result c.append-place.ensures.start c.append-place.ensures.len c.append-place.ensures.at
    c.append-place.new.run.items c.append-place.ensures.run
    ∙ ap (λ n. set (blocks_in c.self.inside.run.items c.self.inside.slots.items) n (Some c.args.lits.now)) (sym c.from_name.ensures)
    ∙ ap (λ (b : Blocks). set b.held c.from_name.result.name (Some c.args.lits.now)) c.self.view_is
