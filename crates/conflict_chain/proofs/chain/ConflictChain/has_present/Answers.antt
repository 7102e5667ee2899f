use Rattle.std.proofs.Common.{◌≡◌, ◌↔◌, IsTrue, get_or, ap, subst, arith}
use Rattle.clause_defs.specs.Clauses.{Lits, Has}
use Rattle.conflict_chain.specs.Conflicts.{Chained}
use Rattle.conflict_chain.specs.Kept.{is_present}
use Rattle.conflict_chain.proofs.MarkLemmas.{code_within, Has-mark}
use Rattle.conflict_chain.proofs.chain.ConflictChain.has_present.Goals as goal

-- the literal's mark tells
pub returns : goal.returns
returns c =
    let marks = c.self.inside.marks.items in
    let size = ap (λ (v : Chained). v.variables) c.self.view_is in
    let within = code_within c.args.l c.self.inside.variables (omega arith) in
    let own = Has-mark is_present marks c.args.l c.index.result.now (let many = c.self.invariant.size in omega arith)
    (subst (λ n. c.index.result.now ≡ get_or marks n c.index.result.now) c.code.ensures.code c.index.ensures) in
    let told : IsTrue (is_present c.index.result.now) ↔ Has c.args.self.now.present c.args.l =
    subst (λ (ls : Lits). IsTrue (is_present c.index.result.now) ↔ Has ls c.args.l) (ap (λ (v : Chained). v.present) c.self.view_is) own in
    told
