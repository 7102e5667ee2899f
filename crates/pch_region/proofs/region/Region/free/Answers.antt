use Rattle.std.proofs.Common.{◌∷◌, ◌++◌, [], set, None, sym, ap, ◌∙◌, arith, length-set}
use Rattle.pch_region.specs.Blocks.{Blocks, held_at}
use Rattle.pch_region.specs.Places.{blocks_in}
use Rattle.pch_region.proofs.RegionLemmas.{free_named, laid_free, blocks_free}
use Rattle.pch_region.proofs.region.Region.free.Goals as goal

pub invariant_of-self : goal.invariant_of-self
invariant_of-self c =
    let set_len = length-set c.self.inside.slots.items c.name.result None in
    let room = c.self.invariant.4 in
    let kept = c.push_reserved.ensures.capacity in (
      free_named c.self.inside.run.items c.self.inside.order.items c.self.inside.slots.items c.self.inside.unused.items c.self.inside.words c.self.inside.live
          c.self.invariant.0 c.self.invariant.1 c.name.result c.get.result.now
          (ap (held_at (blocks_in c.self.inside.run.items c.self.inside.slots.items)) c.name.ensures
          ∙ ap (λ (b : Blocks). held_at b.held c.args.b.name) c.self.view_is ∙ c.get.ensures)
          c.push_reserved.new.self.items
          (c.push_reserved.ensures.items ∙ ap (λ n. c.self.inside.unused.items ++ n ∷ []) (c.name-2.ensures ∙ sym c.name.ensures)),
      laid_free c.self.inside.run.items c.self.inside.order.items c.self.inside.slots.items c.self.inside.words c.self.invariant.1 c.name.result,
      c.self.invariant.2,
      c.self.invariant.3,
      omega arith,
    )

pub returns-clause-held : goal.returns-clause-held
returns-clause-held c =
    blocks_free c.self.inside.run.items c.self.inside.order.items c.self.inside.slots.items c.self.inside.words c.self.invariant.1 c.name.result
    ∙ ap (λ n. set (blocks_in c.self.inside.run.items c.self.inside.slots.items) n None) c.name.ensures
    ∙ ap (λ (b : Blocks). set b.held c.args.b.name None) c.self.view_is
