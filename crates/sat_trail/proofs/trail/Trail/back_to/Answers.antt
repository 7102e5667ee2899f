use Rattle.std.proofs.Common.{◌≡◌, ◌≤◌, ◌<◌, length, take, get_or, sym, ap, ◌∙◌, subst, arith, length-take-le, take_all}
use Rattle.std.proofs.lemmas.List.{get_or_read}
use Rattle.clause_defs.specs.Clauses.{Has}
use Rattle.trail_defs.specs.Assignments.{IsAt}
use Rattle.trail_defs.specs.Trails.{Assigned}
use Rattle.sat_trail.specs.Stages.{first_stage, stage_at}
use Rattle.sat_trail.specs.declared.levels.Stage.{Stage}
use Rattle.sat_trail.proofs.StepLemmas.{back_as, back_left, back_gone, top_left, front_is}
use Rattle.sat_trail.proofs.trail.Trail.back_to.Goals as goal

pub invariant_of-self : goal.invariant_of-self
invariant_of-self c =
    let lt : c.args.level < length c.self.inside.stages.items = let a = c.if-level-self.true in let b = c.self.invariant.2 in omega arith in
    let is : c.index-stage.result.now ≡ stage_at c.self.inside.stages.items c.args.level = get_or_read c.self.inside.stages.items c.args.level c.index-stage.result.now lt c.index-stage.ensures first_stage in
    let inside : c.index-stage.result.now.len ≤ length c.self.inside.values.assignment.lits =
    let e = ap (λ (s : Stage). s.len) is in let a = (c.self.invariant.0.stages_are.each c.args.level lt).0.within in omega arith in
    let room = c.self.invariant.1 in
    let same = c.back_to.ensures.variables in
    let capacity = c.truncate.ensures.capacity in
    let long = ap length c.truncate.ensures.items ∙ length-take-le c.args.level c.self.inside.stages.items (omega arith) in (
      back_as c.self.inside.values.assignment.variables c.self.inside.originals c.self.inside.region.held c.self.inside.values.assignment.lits c.self.inside.values.levels.items c.self.inside.values.reasons.items
          c.self.inside.stages.items c.self.inside.done c.self.inside.watches.watch.items c.self.inside.watches.links c.self.invariant.0
          c.args.level lt c.index-stage.result.now is c.back_to.new.self.variables c.back_to.new.self.lits c.truncate.new.self.items
          same c.back_to.ensures.lits c.truncate.ensures.items,
      omega arith,
      omega arith,
    )

pub returns-then-level-self-clause-lits : goal.returns-then-level-self-clause-lits
returns-then-level-self-clause-lits c =
    let lt : c.args.level < length c.self.inside.stages.items = let a = c.if-level-self.true in let b = c.self.invariant.2 in omega arith in
    let is : c.index-stage.result.now ≡ stage_at c.self.inside.stages.items c.args.level = get_or_read c.self.inside.stages.items c.args.level c.index-stage.result.now lt c.index-stage.ensures first_stage in
    let inside : c.index-stage.result.now.len ≤ length c.self.inside.values.assignment.lits =
    let e = ap (λ (s : Stage). s.len) is in let a = (c.self.invariant.0.stages_are.each c.args.level lt).0.within in omega arith in
    let cut = c.back_to.ensures.lits ∙ ap (λ (s : Stage). take s.len c.self.inside.values.assignment.lits) is in
    let long = ap length c.back_to.ensures.lits ∙ length-take-le c.index-stage.result.now.len c.self.inside.values.assignment.lits inside in
    record {
      front = front_is c.self.inside.values.assignment.lits c.back_to.new.self.lits c.args.self.now.lits c.index-stage.result.now.len c.back_to.ensures.lits inside
          (ap (λ (a : Assigned). a.lits) c.self.view_is);
      left = λ l h. subst (λ (a : Assigned). get_or a.levels l.variable 0 ≤ c.args.level) c.self.view_is
          (back_left c.self.inside.values.assignment.variables c.self.inside.originals c.self.inside.region.held c.self.inside.values.assignment.lits c.self.inside.values.levels.items c.self.inside.values.reasons.items
          c.self.inside.stages.items c.self.inside.done c.self.inside.watches.watch.items c.self.inside.watches.links c.self.invariant.0 c.args.level lt l (subst (λ u. Has u l) cut h));
      gone = λ i l at past. subst (λ (a : Assigned). c.args.level < get_or a.levels l.variable 0) c.self.view_is
          (back_gone c.self.inside.values.assignment.variables c.self.inside.originals c.self.inside.region.held c.self.inside.values.assignment.lits c.self.inside.values.levels.items c.self.inside.values.reasons.items
          c.self.inside.stages.items c.self.inside.done c.self.inside.watches.watch.items c.self.inside.watches.links c.self.invariant.0 c.args.level lt i l (subst (λ (a : Assigned). IsAt a.lits i l) (sym c.self.view_is) at)
          (let e = ap (λ (s : Stage). s.len) is in omega arith));
    }

pub returns-else-level-self-clause-lits : goal.returns-else-level-self-clause-lits
returns-else-level-self-clause-lits c =
    let top : c.args.level ≡ length c.self.inside.stages.items = let a = c.if-level-self.false in let b = c.self.invariant.2 in
    let d = c.requires in let e = ap (λ (a : Assigned). a.present) c.self.view_is in omega arith in
    record {
      front = sym (take_all (length c.args.self.now.lits) c.args.self.now.lits (omega arith));
      left = λ l h. subst (λ (a : Assigned). get_or a.levels l.variable 0 ≤ c.args.level) c.self.view_is
          (top_left c.self.inside.values.assignment.variables c.self.inside.originals c.self.inside.region.held c.self.inside.values.assignment.lits c.self.inside.values.levels.items c.self.inside.values.reasons.items
          c.self.inside.stages.items c.self.inside.done c.self.inside.watches.watch.items c.self.inside.watches.links c.self.invariant.0 c.args.level top l (subst (λ (a : Assigned). Has a.lits l) (sym c.self.view_is) h));
      gone = λ i l at past. let low = at.within in absurd (omega arith);
    }
