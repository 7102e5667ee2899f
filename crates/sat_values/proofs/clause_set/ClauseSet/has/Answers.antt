use Rattle.std.proofs.Common.{subst, IsTrue, ◌↔◌}
use Rattle.clause_defs.specs.Clauses.{HasClause}
use Rattle.clause_defs.specs.Formulas.{Formula}
use Rattle.sat_values.proofs.ClauseLemmas.{had_if_found}
use Rattle.sat_values.proofs.clause_set.ClauseSet.has.Goals as goal

-- a look-up of the ordered literals says whether the clause is had
pub returns : goal.returns
returns c =
    subst (λ (f : Formula). IsTrue c.is_some.result ↔ HasClause f.clauses c.args.lits.now) c.self.view_is
    (had_if_found c.self.inside.clauses.clauses c.args.lits.now c.find.result c.is_some.result c.self.invariant.clauses c.requires
    c.find.ensures.some c.find.ensures.none c.is_some.ensures)
