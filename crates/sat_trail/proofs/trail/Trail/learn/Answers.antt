use Rattle.std.proofs.Common.{◌*◌, ap, subst, sym}
use Rattle.clause_defs.specs.Clauses.{WithinVariables}
use Rattle.trail_defs.specs.Trails.{Assigned}
use Rattle.sat_trail.proofs.LearnLemmas.{kept_learned}
use Rattle.sat_trail.proofs.trail.Trail.learn.Goals as goal

pub invariant_of-self-2 : goal.invariant_of-self-2
invariant_of-self-2 c = (
  kept_learned c.self.inside.values.assignment.variables c.self.inside.originals c.self.inside.region.held c.self.inside.values.assignment.lits c.self.inside.values.levels.items c.self.inside.values.reasons.items
      c.self.inside.stages.items c.self.inside.done c.self.inside.watches.watch.items c.self.inside.watches.links c.self.invariant.0
      c.in_ok-put.field-0.name c.args.lits.now c.in_ok-put.ensures.fresh c.in_ok-put.ensures.in_range c.requires.clause
      (subst (λ (a : Assigned). WithinVariables a.variables c.args.lits.now) (sym c.self.view_is) c.requires.within)
      c.put.new.self.held c.in_ok-put.ensures.put c.push.new.self c.push.ensures.size
      (2 * c.name-name.result) (ap (λ k. 2 * k) c.name-name.ensures) c.push.ensures.lists,
  c.self.invariant.1,
  c.self.invariant.2,
)
