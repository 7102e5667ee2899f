use Rattle.std.proofs.Common.{◌-◌, ◌≤◌, subst}
use Rattle.clause_defs.specs.Formulas.{Formula}
use Rattle.sat_values.proofs.ClauseLemmas.{Has-slice_get}
use Rattle.sat_values.proofs.clause_set.ClauseSet.clause.Goals as goal

pub returns-clause-within : goal.returns-clause-within
returns-clause-within c l h =
    subst (λ (f : Formula). l.variable ≤ f.variables) c.self.view_is
    (c.self.invariant.within c.clause.result.now
    (Has-slice_get c.self.inside.clauses.clauses (c.args.number - 1) c.clause.result.now c.clause.ensures) l h)

pub returns-clause-clause : goal.returns-clause-clause
returns-clause-clause c = c.self.invariant.clauses.clauses c.clause.result.now
    (Has-slice_get c.self.inside.clauses.clauses (c.args.number - 1) c.clause.result.now c.clause.ensures)
