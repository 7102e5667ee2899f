use Rattle.std.proofs.Common.{◌≡◌, ◌≢◌, ◌↔◌, ◌⊎◌, false, IsTrue, [], ◌∷◌, ◌++◌, ap, sym, ◌∙◌, subst}
use Rattle.clause_defs.specs.Literals.{Literal}
use Rattle.clause_defs.specs.Clauses.{Lits, Has}
use Rattle.log_defs.specs.Logs.{clause_of_log}
use Rattle.chain_check.specs.Marks.{literals_where}
use Rattle.conflict_chain.specs.Conflicts.{Chained, AreOthersOf}
use Rattle.conflict_chain.specs.Kept.{is_running, is_present}
use Rattle.conflict_chain.proofs.StepLemmas.{chain_more, resolved_lits}
use Rattle.conflict_chain.proofs.chain.ConflictChain.resolve.Goals as goal

-- the chain with one more clause
pub returns-clause-chain : goal.returns-clause-chain
returns-clause-chain c =
    let s : Chained = record {
      variables = c.self.inside.variables;
      lits = literals_where is_running 0 c.self.inside.marks.items;
      present = literals_where is_present 0 c.self.inside.marks.items;
      antecedents = c.push_reserved.new.self.items;
    } in
    let ants : c.push_reserved.new.self.items ≡ c.args.self.now.antecedents ++ c.args.index ∷ [] =
    c.push_reserved.ensures.items
    ∙ ap (λ is. is ++ c.args.index ∷ []) (ap (λ (v : Chained). v.antecedents) c.self.view_is ∙ c.set-2.ensures.antecedents ∙ c.gather.ensures.antecedents ∙ c.set.ensures.antecedents) in
    let lits : AreOthersOf c.args.self.now.lits (clause_of_log c.args.log.now c.args.index) c.args.literal c.set-2.new.self.lits =
    subst (λ (k : Lits). AreOthersOf c.args.self.now.lits k c.args.literal c.set-2.new.self.lits) c.clause.ensures.lits
    (resolved_lits c.args.self.now.lits c.set.new.self.lits c.gather.new.self.lits c.set-2.new.self.lits c.clause.result.now c.args.literal c.requires.fresh
    (subst (λ (p : Literal). (x : Literal) → Has c.set.new.self.lits x ↔ ((Has c.args.self.now.lits x × (x ≢ p)) ⊎ (IsTrue false × (x ≡ p)))) c.negated.ensures c.set.ensures.lits)
    c.gather.ensures.lits c.set-2.ensures.lits) in
    chain_more c.args.log.now c.args.self.now s c.args.index c.args.literal c.requires.chain c.requires.index c.requires.once ants
    (subst (λ (ls : Lits). AreOthersOf c.args.self.now.lits (clause_of_log c.args.log.now c.args.index) c.args.literal ls) (sym (ap (λ (v : Chained). v.lits) c.self.view_is)) lits)
