use Rattle.std.proofs.Common.{ap, ◌∙◌, arith}
use Rattle.trail_defs.specs.Trails.{Assigned, clause_at}
use Rattle.sat_trail.proofs.NextLemmas.{none_on}
use Rattle.sat_trail.proofs.PropagateLemmas.{kept_propagated, numbers_settled}
use Rattle.sat_trail.proofs.trail.Trail.propagate.Goals as goal

pub invariant_of-self : goal.invariant_of-self
invariant_of-self c = (
  kept_propagated c.self.inside.values.assignment.variables c.self.inside.originals c.self.inside.region.held c.self.inside.values.assignment.lits c.self.inside.values.levels.items c.self.inside.values.reasons.items
      c.self.inside.stages.items c.self.inside.done c.self.inside.watches.watch.items c.self.inside.watches.links c.self.invariant.0
      c.propagate.new.values.assignment.variables c.self.inside.present c.propagate.ensures.variables c.self.invariant.2
      c.propagate.new.values.assignment.lits c.propagate.new.values.levels.items c.propagate.new.values.reasons.items c.propagate.new.done c.propagate.new.watches.watch.items c.propagate.new.watches.links
      c.propagate.ensures.passing.resting c.propagate.ensures.passing.passed c.propagate.ensures.passing.watched c.propagate.ensures.keeps,
  let same = c.propagate.ensures.variables in let room = c.self.invariant.1 in omega arith,
  c.self.invariant.2,
)

pub returns-clause-settled : goal.returns-clause-settled
returns-clause-settled c =
    none_on c.propagate.result c.propagate.ensures.settled
    (λ settled k d e. numbers_settled c.self.inside.region.held c.propagate.new.values.assignment.lits settled k d (ap (λ (a : Assigned). clause_at a.clauses k) c.self.view_is ∙ e))
