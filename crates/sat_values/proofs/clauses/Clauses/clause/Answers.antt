use Rattle.sat_values.proofs.ClauseLemmas.{Has-slice_get}
use Rattle.sat_values.proofs.clauses.Clauses.clause.Goals as goal

-- a member of the list is a clause
pub returns-clause-clause : goal.returns-clause-clause
returns-clause-clause c = c.self.invariant.clauses c.get.result.now (Has-slice_get c.self.inside.lists.lists c.args.k c.get.result.now c.get.ensures.list)
