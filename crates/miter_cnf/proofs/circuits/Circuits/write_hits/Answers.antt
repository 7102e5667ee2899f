use Rattle.std.proofs.Common.{◌≡◌, [], ◌∷◌, ap, subst, ◌∙◌}
use Rattle.clause_defs.specs.Literals.{Literal, negation}
use Rattle.clause_defs.specs.Clauses.{Lits}
use Rattle.net_defs.specs.Networks.{node_at}
use Rattle.miter_defs.specs.Numberings.{node_variable, row_variable}
use Rattle.miter_defs.specs.Miters.{literal, negative}
use Rattle.miter_cnf.specs.Circuits.{Circuits}
use Rattle.miter_cnf.specs.Writing.{Adds}
use Rattle.miter_cnf.proofs.WritingLemmas.{Adds-map_list_of}
use Rattle.miter_cnf.proofs.circuits.Circuits.write_hits.Goals as goal

-- the clause that is written is that of the next row
pub loop-r-preserved : goal.loop-r-preserved
loop-r-preserved c =
    let net = c.args.self.now.net in
    let v = c.args.v in
    let node : Literal = literal (node_variable net v) (node_at net v).on in
    let hit : Literal = negative (row_variable net v c.loop-r.r) in
    let variable = ap (λ (l : Literal). l.variable) c.node.ensures in
    let on = c.on.ensures ∙ ap (λ (s : Circuits). (node_at s.net v).on) c.self.view_is in
    let first : c.signed-node.result ≡ node = c.signed-node.ensures ∙ (λ i. literal (variable i) (on i)) in
    let second : c.negated.result ≡ hit = c.negated.ensures ∙ ap negation c.row.ensures in
    let P : Lits → Type 0 = λ ls. Adds c.loop-r.w.clauses (ls ∷ []) c.write.new.self.clauses in
    Adds-map_list_of c.args.w.now.clauses c.loop-r.w.clauses c.write.new.self.clauses (λ h. node ∷ negative h ∷ []) c.loop-r.r (row_variable net v)
    c.loop-r.invariant
    (subst P (λ i. first i ∷ second i ∷ []) c.in_ok-write.ensures)
