use Rattle.std.proofs.Common.{◌<◌, ◌+◌, length, get_or, refl, sym, ap, ◌∙◌, subst, arith, get_or-set_same, get_or-set_other}
use Rattle.std.proofs.lemmas.List.{length_push}
use Rattle.trail_defs.specs.Assignments.{IsFree}
use Rattle.assignment.proofs.ApartLemmas.{free_apart}
use Rattle.trail_defs.specs.Trails.{Assigned}
use Rattle.link_lists.specs.Linked.{list_at}
use Rattle.sat_trail.proofs.TrailLemmas.{few_stages}
use Rattle.sat_trail.proofs.StepLemmas.{assigned_as}
use Rattle.sat_trail.proofs.trail.Trail.assign.Goals as goal

-- fewer levels are open than there are variables
pub push_reserved-requires : goal.push_reserved-requires
push_reserved-requires c =
    let low = few_stages c.self.inside.region.held (list_at c.self.inside.watches.links.lists 1) c.self.inside.watches.watch.items c.self.inside.values.assignment.lits c.self.inside.done c.self.inside.stages.items c.self.invariant.0.stages_are in
    let more = ap length c.imply.ensures.lits ∙ length_push c.self.inside.values.assignment.lits c.args.l in
    let few = c.imply.ensures.few in
    let same = c.imply.ensures.variables in
    let room = c.self.invariant.1 in
    omega arith

pub overflow_add-self : goal.overflow_add-self
overflow_add-self c =
    let low = few_stages c.self.inside.region.held (list_at c.self.inside.watches.links.lists 1) c.self.inside.watches.watch.items c.self.inside.values.assignment.lits c.self.inside.done c.self.inside.stages.items c.self.invariant.0.stages_are in
    let len = c.len.ensures.len in
    let small = c.len.ensures.small in
    let present = c.self.invariant.2 in
    omega arith

pub invariant_of-self : goal.invariant_of-self
invariant_of-self c =
    let present = c.self.invariant.2 in
    let room = c.self.invariant.1 in
    let seen = ap (λ (a : Assigned). a.variables) c.self.view_is in
    let capacity = c.push_reserved.ensures.capacity in
    let same = c.imply.ensures.variables in
    let long = ap length c.push_reserved.ensures.items ∙ length_push c.self.inside.stages.items (record { len = c.len.result; done = c.self.inside.done }) in (
      assigned_as c.self.inside.values.assignment.variables c.self.inside.originals c.self.inside.region.held c.self.inside.values.assignment.lits c.self.inside.values.levels.items c.self.inside.values.reasons.items
          c.self.inside.stages.items c.self.inside.done c.self.inside.watches.watch.items c.self.inside.watches.links c.self.invariant.0
          c.args.l (subst (λ (a : Assigned). IsFree a.lits c.args.l) (sym c.self.view_is) c.requires.free) (let a = c.requires.within in omega arith)
          (record { len = c.len.result; done = c.self.inside.done }) c.len.ensures.len refl (c.self.inside.present + 1) (omega arith)
          c.imply.new.values.assignment.variables c.imply.new.values.assignment.lits c.imply.new.values.levels.items c.imply.new.values.reasons.items c.push_reserved.new.self.items
          same c.imply.ensures.lits c.imply.ensures.levels c.imply.ensures.reasons c.push_reserved.ensures.items,
      omega arith,
      omega arith,
    )

-- its level is the new one
pub returns-clause-own : goal.returns-clause-own
returns-clause-own c =
    let seen = ap (λ (a : Assigned). a.variables) c.self.view_is in
    let size = c.self.invariant.0.marked.level_size in
    let inside : c.args.l.variable < length c.self.inside.values.levels.items = let a = c.requires.within in omega arith in
    ap (λ ls. get_or ls c.args.l.variable 0) c.imply.ensures.levels
    ∙ get_or-set_same c.self.inside.values.levels.items c.args.l.variable (c.self.inside.present + 1) 0 inside
    ∙ ap (λ (a : Assigned). a.present + 1) c.self.view_is

-- the others keep theirs
pub returns-clause-others : goal.returns-clause-others
returns-clause-others c m has =
    let apart = free_apart c.args.self.now.lits c.args.l c.requires.free m has in
    ap (λ ls. get_or ls m.variable 0) c.imply.ensures.levels
    ∙ get_or-set_other c.self.inside.values.levels.items c.args.l.variable m.variable (c.self.inside.present + 1) 0 apart
    ∙ ap (λ (a : Assigned). get_or a.levels m.variable 0) c.self.view_is
