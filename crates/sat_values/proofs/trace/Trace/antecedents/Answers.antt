use Rattle.std.proofs.Common.{◌<◌, ℕ, List, sym, ap, ◌∙◌, subst}
use Rattle.clause_defs.specs.Clauses.{Has}
use Rattle.clause_defs.specs.Traces.{antecedents_at}
use Rattle.sat_values.proofs.TraceLemmas.{antecedents_at-entries_of}
use Rattle.sat_values.proofs.trace.Trace.antecedents.Goals as goal

-- the column's list is the entry's antecedents
pub returns-clause-antecedents : goal.returns-clause-antecedents
returns-clause-antecedents c =
    sym (antecedents_at-entries_of c.self.inside.columns.indices.items c.self.inside.columns.lits.lists c.self.inside.columns.antecedents.lists c.self.inside.signs.items c.args.k c.get.result.now c.self.invariant.as_many_lits c.self.invariant.as_many_antecedents c.get.ensures.list)
    ∙ ap (λ t. antecedents_at t c.args.k) c.self.view_is

-- antecedents stand earlier
pub returns-clause-earlier : goal.returns-clause-earlier
returns-clause-earlier c =
    subst (λ (ps : List ℕ). (p : ℕ) → Has ps p → p < c.args.k)
    (antecedents_at-entries_of c.self.inside.columns.indices.items c.self.inside.columns.lits.lists c.self.inside.columns.antecedents.lists c.self.inside.signs.items c.args.k c.get.result.now c.self.invariant.as_many_lits c.self.invariant.as_many_antecedents c.get.ensures.list)
    (λ p. c.self.invariant.trace.earlier c.args.k p)
