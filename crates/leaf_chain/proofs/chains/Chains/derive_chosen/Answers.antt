use Rattle.std.proofs.Common.{◌≡◌, ℕ, List, map, Result, ap, sym, Err, ◌∙◌, subst}
use Rattle.clause_defs.specs.Clauses.{Lits}
use Rattle.clause_defs.specs.Resolution.{Resolves}
use Rattle.clause_laws.proofs.Resolvents.{resolves_same}
use Rattle.log_defs.specs.Logs.{clause_of_log}
use Rattle.log_defs.specs.Deriving.{DeriveEnds}
use Rattle.log_defs.specs.declared.log_end.LogEnd.{LogEnd}
use Rattle.leaf_chain.specs.Marks.{Chaining, marked}
use Rattle.leaf_chain.specs.Leaves.{LeafEnds}
use Rattle.leaf_chain.proofs.LeafLemmas.{kept_is_ok, leaf_ends}
use Rattle.leaf_chain.proofs.chains.Chains.derive_chosen.Goals as goal
use Rattle.leaf_chain.proofs.chains.Chains.derive_chosen.Goals.{in-Ok, in-Err-Kept, in-Err-Spent}

pub derive-requires-clause-resolves : goal.derive-requires-clause-resolves
derive-requires-clause-resolves c =
    let lits_are = c.deref.ensures.value ∙ ap (λ (k : Chaining). k.lits) c.self.view_is in
    let ants_are = c.deref-2.ensures.value ∙ ap (λ (k : Chaining). k.antecedents) c.self.view_is ∙ c.collect.ensures.others.1 in
    let g = clause_of_log c.args.log.now in
    subst (λ (is : List ℕ). Resolves (map g is) c.deref.result.now) (sym ants_are)
    (subst (λ (ls : Lits). Resolves (map g c.resolve.new.self.antecedents) ls) (sym lits_are)
    (resolves_same (map g c.resolve.new.self.antecedents) (marked c.resolve.new.self.marks c.args.e.now.values) c.collect.new.self.lits
    c.collect.ensures.same c.resolve.ensures.running.resolves))

pub returns-clause-ends : goal.returns-clause-ends
returns-clause-ends c =
    let lits_are = c.deref.ensures.value ∙ ap (λ (k : Chaining). k.lits) c.self.view_is in
    let ants_are = c.deref-2.ensures.value ∙ ap (λ (k : Chaining). k.antecedents) c.self.view_is ∙ c.collect.ensures.others.1 in
    let log = c.args.log.now in
    let after = c.derive.new.self in
    let ends : DeriveEnds log (record { lits = c.collect.new.self.lits; antecedents = c.resolve.new.self.antecedents }) c.derive.result after =
    subst (λ (ls : Lits). DeriveEnds log (record { lits = ls; antecedents = c.resolve.new.self.antecedents }) c.derive.result after) lits_are
    (subst (λ (is : List ℕ). DeriveEnds log (record { lits = c.deref.result.now; antecedents = is }) c.derive.result after) ants_are c.derive.ensures) in
    let same : c.match-derive.result ≡ kept_is_ok c.derive.result =
    elim c.match-derive.branch [
      | in-Ok w ↦ w.result-is ∙ sym (ap kept_is_ok w.in-Ok.is)
      | in-Err-Kept w ↦ w.result-is ∙ sym (ap kept_is_ok w.in-Err-Kept.is ∙ ap (λ (k : LogEnd). kept_is_ok (Err k)) w.in-Err-Kept.field-0-is)
      | in-Err-Spent w ↦ w.result-is ∙ sym (ap kept_is_ok w.in-Err-Spent.is ∙ ap (λ (k : LogEnd). kept_is_ok (Err k)) w.in-Err-Spent.field-0-is)
    ] in
    subst (λ (r : Result ℕ LogEnd). LeafEnds c.args.e.now log r after) (sym same)
    (leaf_ends c.args.e.now log c.resolve.new.self.marks c.resolve.new.self.antecedents c.collect.new.self.lits c.resolve.ensures.running
    c.collect.ensures.same c.collect.ensures.few c.derive.result after ends)
