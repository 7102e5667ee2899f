use Rattle.std.proofs.Common.{◌↔◌, ◌≡◌, ◌<◌, Bool, false, IsTrue, length, sym, ap, ◌∙◌, subst, arith}
use Rattle.std.proofs.lemmas.List.{get_or_default, get_or_past}
use Rattle.clause_defs.specs.Traces.{IsCompactAt}
use Rattle.sat_values.specs.TraceArrays.{entries_of}
use Rattle.sat_values.proofs.TraceLemmas.{length-entries_of, IsCompactAt-entries_of}
use Rattle.sat_values.proofs.trace.Trace.is_compact.Goals as goal

-- the column says whether the sign stands
pub returns-clause-sign : goal.returns-clause-sign
returns-clause-sign c =
    let many = length-entries_of c.self.inside.columns.indices.items c.self.inside.columns.lits.lists c.self.inside.columns.antecedents.lists c.self.inside.signs.items c.self.invariant.as_many_lits c.self.invariant.as_many_antecedents in
    let seen = ap length c.self.view_is in
    let within = c.requires in
    let at : c.args.k < length c.self.inside.columns.indices.items = omega arith in
    let counted : c.len.result ≡ length c.self.inside.signs.items = c.len.ensures ∙ c.self.inside.signs.ok.0 in
    subst (λ t. IsTrue c.index.result.now ↔ IsCompactAt t c.args.k) c.self.view_is
    (subst (λ (b : Bool). IsTrue b ↔ IsCompactAt (entries_of c.self.inside.columns.indices.items c.self.inside.columns.lits.lists c.self.inside.columns.antecedents.lists c.self.inside.signs.items) c.args.k)
    (sym (c.index.ensures ∙ get_or_default c.self.inside.signs.items c.args.k c.index.result.now false (let lt = c.if-at-len.false in omega arith)))
    (IsCompactAt-entries_of c.self.inside.columns.indices.items c.self.inside.columns.lits.lists c.self.inside.columns.antecedents.lists c.self.inside.signs.items c.args.k c.self.invariant.as_many_lits c.self.invariant.as_many_antecedents at))

-- past the column's end no sign stands
pub returns-then-at-len-clause-sign : goal.returns-then-at-len-clause-sign
returns-then-at-len-clause-sign c =
    let many = length-entries_of c.self.inside.columns.indices.items c.self.inside.columns.lits.lists c.self.inside.columns.antecedents.lists c.self.inside.signs.items c.self.invariant.as_many_lits c.self.invariant.as_many_antecedents in
    let seen = ap length c.self.view_is in
    let within = c.requires in
    let at : c.args.k < length c.self.inside.columns.indices.items = omega arith in
    let counted : c.len.result ≡ length c.self.inside.signs.items = c.len.ensures ∙ c.self.inside.signs.ok.0 in
    subst (λ t. IsTrue false ↔ IsCompactAt t c.args.k) c.self.view_is
    (subst (λ (b : Bool). IsTrue b ↔ IsCompactAt (entries_of c.self.inside.columns.indices.items c.self.inside.columns.lits.lists c.self.inside.columns.antecedents.lists c.self.inside.signs.items) c.args.k)
    (get_or_past c.self.inside.signs.items c.args.k false (let le = c.if-at-len.true in omega arith))
    (IsCompactAt-entries_of c.self.inside.columns.indices.items c.self.inside.columns.lits.lists c.self.inside.columns.antecedents.lists c.self.inside.signs.items c.args.k c.self.invariant.as_many_lits c.self.invariant.as_many_antecedents at))
