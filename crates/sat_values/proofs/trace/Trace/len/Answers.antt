use Rattle.std.proofs.Common.{length, sym, ap, ◌∙◌}
use Rattle.sat_values.proofs.TraceLemmas.{length-entries_of}
use Rattle.sat_values.proofs.trace.Trace.len.Goals as goal

-- there are as many entries as lists of literals
pub returns-clause-len : goal.returns-clause-len
returns-clause-len c =
    c.len.ensures ∙ c.self.invariant.as_many_lits
    ∙ sym (length-entries_of c.self.inside.columns.indices.items c.self.inside.columns.lits.lists c.self.inside.columns.antecedents.lists c.self.inside.signs.items c.self.invariant.as_many_lits c.self.invariant.as_many_antecedents)
    ∙ ap length c.self.view_is
