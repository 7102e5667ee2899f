use Rattle.std.proofs.Common.{◌<◌, length, sym, ap, ◌∙◌, arith}
use Rattle.std.proofs.lemmas.List.{get_or_default}
use Rattle.clause_defs.specs.Traces.{index_at}
use Rattle.sat_values.proofs.TraceLemmas.{length-entries_of, index_at-entries_of}
use Rattle.sat_values.proofs.trace.Trace.index.Goals as goal

-- the column's number is the entry's index
pub returns-clause-index : goal.returns-clause-index
returns-clause-index c =
    let many = length-entries_of c.self.inside.columns.indices.items c.self.inside.columns.lits.lists c.self.inside.columns.antecedents.lists c.self.inside.signs.items c.self.invariant.as_many_lits c.self.invariant.as_many_antecedents in
    let seen = ap length c.self.view_is in
    let within = c.requires in
    let at : c.args.k < length c.self.inside.columns.indices.items = omega arith in
    c.index.ensures ∙ get_or_default c.self.inside.columns.indices.items c.args.k c.index.result.now 0 at
    ∙ sym (index_at-entries_of c.self.inside.columns.indices.items c.self.inside.columns.lits.lists c.self.inside.columns.antecedents.lists c.self.inside.signs.items c.args.k c.self.invariant.as_many_lits c.self.invariant.as_many_antecedents at)
    ∙ ap (λ t. index_at t c.args.k) c.self.view_is
