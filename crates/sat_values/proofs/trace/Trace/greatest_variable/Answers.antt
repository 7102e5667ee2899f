use Rattle.std.proofs.Common.{subst, sym, arith}
use Rattle.clause_defs.specs.Clauses.{Has}
use Rattle.clause_defs.specs.Traces.{lits_at}
use Rattle.sat_values.specs.TraceArrays.{entries_of}
use Rattle.sat_values.proofs.TraceLemmas.{greatest_variable-within}
use Rattle.sat_values.proofs.trace.Trace.greatest_variable.Goals as goal

-- no stated literal has a greater variable
pub returns-clause-within : goal.returns-clause-within
returns-clause-within c k l h =
    let among = subst (λ t. Has (lits_at t k) l) (sym c.self.view_is) h in
    let greatest_is = c.self.invariant.greatest_is in
    omega (arith, greatest_variable-within (entries_of c.self.inside.columns.indices.items c.self.inside.columns.lits.lists c.self.inside.columns.antecedents.lists c.self.inside.signs.items) k l among)
