use Rattle.std.proofs.Common.{◌≡◌, [], ◌∷◌, ◌++◌, subst, ◌∙◌}
use Rattle.std.specs.Result.{OnOk}
use Rattle.clause_defs.specs.Clauses.{Lits, clause_of}
use Rattle.clause_laws.proofs.ClauseOf.{clause_of-ordered}
use Rattle.miter_cnf.proofs.writer.Writer.end.Goals as goal

-- the pushed literals are the clause of those that were added
pub returns : goal.returns
returns c =
    let ordered = c.order_literals.new.lits.items in
    let added = c.args.self.now.literals.items in
    let e : c.deref.result.now ≡ clause_of added =
    c.deref.ensures.value ∙ clause_of-ordered ordered added c.order_literals.ensures.ordered c.order_literals.ensures.same in
    let P : Lits → Type 0 = λ clause. OnOk c.push_lits.result (c.push_lits.new.self ≡ c.args.self.now.clauses ++ clause ∷ []) in
    subst P e c.push_lits.ensures.ok
