use Rattle.std.proofs.Common.{length, sym, ap, ◌∙◌, arith, subst}
use Rattle.clause_defs.specs.Clauses.{IsClause}
use Rattle.clause_defs.specs.Traces.{lits_at}
use Rattle.sat_values.specs.TraceArrays.{entries_of}
use Rattle.sat_values.proofs.TraceLemmas.{length-entries_of, lits_at-stated}
use Rattle.sat_values.proofs.trace.Trace.lits.Goals as goal

-- the column's literals are those that the entry states
pub returns-clause-lits : goal.returns-clause-lits
returns-clause-lits c =
    sym (lits_at-stated (entries_of c.self.inside.columns.indices.items c.self.inside.columns.lits.lists c.self.inside.columns.antecedents.lists c.self.inside.signs.items) c.self.inside.columns.lits.lists c.args.k c.get.result.now c.self.invariant.lits_are c.get.ensures.list)
    ∙ ap (λ t. lits_at t c.args.k) c.self.view_is

-- they are in their order and within the limits
pub returns-clause-clause : goal.returns-clause-clause
returns-clause-clause c =
    let many = length-entries_of c.self.inside.columns.indices.items c.self.inside.columns.lits.lists c.self.inside.columns.antecedents.lists c.self.inside.signs.items c.self.invariant.as_many_lits c.self.invariant.as_many_antecedents in
    let seen = ap length c.self.view_is in
    let within = c.requires in
    subst IsClause (lits_at-stated (entries_of c.self.inside.columns.indices.items c.self.inside.columns.lits.lists c.self.inside.columns.antecedents.lists c.self.inside.signs.items) c.self.inside.columns.lits.lists c.args.k c.get.result.now c.self.invariant.lits_are c.get.ensures.list)
    (c.self.invariant.trace.clauses c.args.k (omega arith))
