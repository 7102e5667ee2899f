use Rattle.std.proofs.Common.{◌+◌, ◌*◌, [], None, length, refl, sym, ap, ◌∙◌, subst, arith, length-take-le}
use Rattle.std.proofs.lemmas.List.{length-replicate}
use Rattle.sat_trail.specs.Watching.{HasSizes}
use Rattle.sat_trail.specs.Kept.{IsKept}
use Rattle.sat_trail.proofs.LoadLemmas.{loaded_kept, loaded_held}
use Rattle.sat_trail.proofs.trail.Trail.open_front.Goals as goal

pub invariant_of-result : goal.invariant_of-result
invariant_of-result c =
    let variables_is = c.in_ok-values.ensures.variables ∙ c.variables-variables.ensures.variables in
    let blocks_is = ap length c.in_ok-region.ensures.held ∙ length-replicate c.in_ok-blocks.blocks None in
    let many = c.load.ensures.loading.many in
    let links_is = c.in_ok-links.ensures.sum in
    let small = c.in_ok-links.ensures.small in
    let size_is = c.load.ensures.size ∙ c.in_ok-watches.ensures.size in
    let lists_is = c.load.ensures.many_lists ∙ ap length c.in_ok-watches.ensures.lists ∙ length-replicate (2 * c.variables-variables.result + 4) [] in
    let same = c.variables-variables.ensures.variables in
    let sizes : HasSizes c.load.new.region.held c.args.set.now.variables c.load.new.watches.links = record {
      size = omega arith;
      few = omega arith;
      lists = omega arith;
    } in
    let watch_is = ap (λ w. length w.items) c.load.ensures.watch ∙ c.in_ok-watches.ensures.watch in
    let none = c.in_ok-stages.ensures.items in (
      subst (λ n. IsKept n c.args.count c.load.new.region.held c.in_ok-values.values.assignment.lits c.in_ok-values.values.levels.items c.in_ok-values.values.reasons.items
          c.in_ok-stages.stages.items 0 c.load.new.watches.watch.items c.load.new.watches.links) (sym variables_is)
          (loaded_kept c.args.set.now.variables c.args.set.now.clauses (length c.in_ok-region.region.held) c.args.count c.load.new.region.held
          c.load.ensures.loading c.variables-variables.ensures.clauses c.requires
          c.load.new.watches.watch.items c.load.new.watches.links c.in_ok-values.values.levels.items c.in_ok-values.values.reasons.items
          c.in_ok-values.values.assignment.lits c.in_ok-stages.stages.items c.load.ensures.lists sizes (omega arith)
          (let a = c.in_ok-values.ensures.levels in omega arith) (let a = c.in_ok-values.ensures.reasons in omega arith)
          c.in_ok-values.ensures.empty none),
      (let a = c.in_ok-stages.ensures.capacity in omega arith),
      sym (ap length none),
    )

pub returns : goal.returns
returns c =
    let blocks_is = ap length c.in_ok-region.ensures.held ∙ length-replicate c.in_ok-blocks.blocks None in
    record {
      opened = record {
        over = c.in_ok-values.ensures.variables ∙ c.variables-variables.ensures.variables;
        many = sym (length-take-le c.args.count c.args.set.now.clauses c.requires);
        held = loaded_held c.args.set.now.variables c.args.set.now.clauses (length c.in_ok-region.region.held) c.args.count c.load.new.region.held
            c.load.ensures.loading c.variables-variables.ensures.clauses c.requires c.args.extra_blocks (blocks_is ∙ c.in_ok-blocks.ensures.sum);
        room = c.load.ensures.words ∙ c.in_ok-region.ensures.words ∙ c.in_ok-words.ensures.sum ∙ ap (λ n. n + c.args.extra_words) c.in_ok-literals_in.ensures;
        none = c.in_ok-values.ensures.empty;
        level = refl;
      };
    }
