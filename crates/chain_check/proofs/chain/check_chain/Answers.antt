use Rattle.std.proofs.Common.{[], map, Some, Err, sym, ◌∙◌, ap, subst}
use Rattle.std.proofs.lemmas.Bool.{true≢false}
use Rattle.std.proofs.lemmas.Result.{err_from_is_err_and}
use Rattle.clause_defs.specs.Clauses.{SameSet}
use Rattle.clause_defs.specs.Traces.{stated_at, lits_at, antecedents_at, index_at}
use Rattle.clause_defs.specs.Verdicts.{ChainFault}
use Rattle.clause_defs.specs.declared.verdict.ChainError.{ChainError}
use Rattle.chain_check.specs.Known.{antecedents_known}
use Rattle.chain_check.proofs.EndLemmas.{fault_err, fault_ok, fault_other}
use Rattle.chain_check.proofs.KnownLemmas.{end_stated}
use Rattle.chain_check.proofs.chain.check_chain.Goals as goal

-- a faulty step is the fault of the whole clause
pub returns-in_err-follow-clause-end : goal.returns-in_err-follow-clause-end
returns-in_err-follow-clause-end c =
    let t = c.args.t.now in
    let k = c.args.k in
    let p = err_from_is_err_and c.from_residual.result c.from_residual.ensures.1 in
    subst (ChainFault (index_at t k) (stated_at t k) (map (lits_at t) (antecedents_at t k))) (ap Err (sym p.2) ∙ sym p.1)
    (end_stated t k c.requires.stated _ (fault_err (index_at t k) (lits_at t k) (antecedents_known t [] k) _ (c.in_err-follow.ensures {u = tt}).end))

-- a chain that comes to the stated literals has no fault
pub returns-then-comes_to-clause-end : goal.returns-then-comes_to-clause-end
returns-then-comes_to-clause-end c =
    let t = c.args.t.now in
    let k = c.args.k in
    let own = c.in_ok-follow.ensures {u = tt} in
    let same = subst (SameSet c.follow.new.m.running) c.lits.ensures.lits (c.comes_to.ensures.same.0 c.if-comes_to.true) in
    end_stated t k c.requires.stated _ (fault_ok (index_at t k) (lits_at t k) (antecedents_known t [] k) c.follow.new.m.running own.clause same)

-- a chain that comes to other literals has that fault
pub returns-else-comes_to-clause-end : goal.returns-else-comes_to-clause-end
returns-else-comes_to-clause-end c =
    let t = c.args.t.now in
    let k = c.args.k in
    let own = c.in_ok-follow.ensures {u = tt} in
    end_stated t k c.requires.stated _
    (subst (λ i. ChainFault (index_at t k) (Some (lits_at t k)) (antecedents_known t [] k) (Err (ChainError.Other i))) (sym c.index.ensures.index)
    (fault_other (index_at t k) (lits_at t k) (antecedents_known t [] k) c.follow.new.m.running own.clause
    (λ same. true≢false (sym (c.comes_to.ensures.same.1 (subst (SameSet c.follow.new.m.running) (sym c.lits.ensures.lits) same)) ∙ c.if-comes_to.false))))
