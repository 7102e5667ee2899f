use Rattle.std.proofs.Common.{◌∷◌, [], inl, inr, refl, sym, subst}
use Rattle.clause_defs.specs.Clauses.{Has}
use Rattle.pch_base.proofs.SetLemmas.{Has-append}
use Rattle.link_lists.specs.Linked.{list_at}
use Rattle.sat_trail.specs.Visits.{IsLeft}
use Rattle.sat_trail.specs.Looks.{IsVisiting}
use Rattle.sat_trail.proofs.NextLemmas.{reason_within, visiting_after, keeps_visit, keeps_forced}
use Rattle.sat_trail.proofs.spread.visit_next.Goals as goal

pub imply-requires-clause-within : goal.imply-requires-clause-within
imply-requires-clause-within c =
    let v = c.in-Some.ensures.step in
    let left = subst (IsLeft c.args.region.now.held c.args.values.now.assignment.lits c.args.x c.args.watches.now.watch.items c.args.watches.now.links.lists
    c.visit.new.watches.watch.items c.visit.new.watches.links.lists) c.in-Forces.is v.leaves in
    reason_within c.args.values.now.assignment.variables c.args.region.now.held c.requires.visiting.over c.args.values.now.assignment.lits c.in-Forces.number c.in-Forces.l left.0

pub returns-in-Answered-clause-keeps : goal.returns-in-Answered-clause-keeps
returns-in-Answered-clause-keeps c = keeps_visit c.args.region.now.held c.args.values.now.assignment.variables c.args.level c.args.values.now.assignment.lits c.args.values.now.levels.items c.args.values.now.reasons.items c.args.x
    c.args.watches.now.watch.items c.visit.new.watches.watch.items c.args.watches.now.links c.visit.new.watches.links c.in-Some.step c.in-Some.ensures.step

pub returns-in-Conflict-clause-keeps : goal.returns-in-Conflict-clause-keeps
returns-in-Conflict-clause-keeps c = keeps_visit c.args.region.now.held c.args.values.now.assignment.variables c.args.level c.args.values.now.assignment.lits c.args.values.now.levels.items c.args.values.now.reasons.items c.args.x
    c.args.watches.now.watch.items c.visit.new.watches.watch.items c.args.watches.now.links c.visit.new.watches.links c.in-Some.step c.in-Some.ensures.step

pub returns-in-Forces-clause-visiting : goal.returns-in-Forces-clause-visiting
returns-in-Forces-clause-visiting c =
    subst (λ n. IsVisiting c.args.region.now.held n c.visit.new.watches.watch.items c.visit.new.watches.links c.args.x) (sym c.imply.ensures.variables)
    (visiting_after c.args.region.now.held c.args.values.now.assignment.variables c.args.level c.args.values.now.assignment.lits c.args.values.now.levels.items c.args.values.now.reasons.items c.args.x
    c.args.watches.now.watch.items c.visit.new.watches.watch.items c.args.watches.now.links c.visit.new.watches.links c.in-Some.step c.in-Some.ensures.step
    c.requires.visiting c.in-Some.ensures.sizes)

pub returns-in-Forces-clause-keeps : goal.returns-in-Forces-clause-keeps
returns-in-Forces-clause-keeps c =
    let v = c.in-Some.ensures.step in
    let left = subst (IsLeft c.args.region.now.held c.args.values.now.assignment.lits c.args.x c.args.watches.now.watch.items c.args.watches.now.links.lists
    c.visit.new.watches.watch.items c.visit.new.watches.links.lists) c.in-Forces.is v.leaves in
    let keeps = keeps_visit c.args.region.now.held c.args.values.now.assignment.variables c.args.level c.args.values.now.assignment.lits c.args.values.now.levels.items c.args.values.now.reasons.items c.args.x
    c.args.watches.now.watch.items c.visit.new.watches.watch.items c.args.watches.now.links c.visit.new.watches.links c.in-Some.step c.in-Some.ensures.step in
    keeps_forced c.args.region.now.held c.args.values.now.assignment.variables c.args.level (list_at c.args.watches.now.links.lists 1) (list_at c.visit.new.watches.links.lists 1)
    c.args.watches.now.watch.items c.visit.new.watches.watch.items c.args.values.now.assignment.lits c.args.values.now.levels.items c.args.values.now.reasons.items
    c.in-Forces.number c.in-Forces.l keeps c.requires.marks
    (reason_within c.args.values.now.assignment.variables c.args.region.now.held c.requires.visiting.over c.args.values.now.assignment.lits c.in-Forces.number c.in-Forces.l left.0)
    left.1 left.0 c.imply.new.values.assignment.lits c.imply.new.values.levels.items c.imply.new.values.reasons.items
    c.imply.ensures.lits c.imply.ensures.levels c.imply.ensures.reasons

pub returns-in-Forces-clause-outcome : goal.returns-in-Forces-clause-outcome
returns-in-Forces-clause-outcome c =
    let v = c.in-Some.ensures.step in
    let left = subst (IsLeft c.args.region.now.held c.args.values.now.assignment.lits c.args.x c.args.watches.now.watch.items c.args.watches.now.links.lists
    c.visit.new.watches.watch.items c.visit.new.watches.links.lists) c.in-Forces.is v.leaves in
    let old = c.args.values.now.assignment.lits in
    let l = c.in-Forces.l in (
      v.fewer,
      λ answered. left.2 c.imply.new.values.assignment.lits
          (λ m h. subst (λ u. Has u m) (sym c.imply.ensures.lits) ((Has-append old (l ∷ []) m).1 (inl h)))
          (subst (λ u. Has u l) (sym c.imply.ensures.lits) ((Has-append old (l ∷ []) l).1 (inr (inl refl))))
          answered,
    )
