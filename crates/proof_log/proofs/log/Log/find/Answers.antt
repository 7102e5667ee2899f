use Rattle.std.proofs.Common.{◌+◌, subst, arith}
use Rattle.std.proofs.lemmas.Option.{slice_get_within}
use Rattle.log_defs.specs.Logs.{LogValue, HasDerived}
use Rattle.log_defs.specs.Deriving.{IsNew}
use Rattle.proof_log.proofs.KeptLemmas.{is_new, has_derived, if_none}
use Rattle.proof_log.proofs.log.Log.find.Goals as goal

pub returns-in_err-k-clause-none : goal.returns-in_err-k-clause-none
returns-in_err-k-clause-none c = if_none c.from_residual.result (IsNew c.args.self.now c.args.lits.now)
    (subst (λ (l : LogValue). IsNew l c.args.lits.now) c.self.view_is (is_new _ _ _ _ _ c.self.invariant c.args.lits.now c.requires.ordered c.in_err-k.ensures.none))

pub overflow_add-result : goal.overflow_add-result
overflow_add-result c =
    let lt = slice_get_within c.self.inside.clauses.clauses c.in_ok-k.k c.args.lits.now c.in_ok-k.ensures.some in
    let originals = c.len.ensures.len in
    let few = c.self.invariant.log.few in omega arith

pub overflow_add-result-2 : goal.overflow_add-result-2
overflow_add-result-2 c =
    let lt = slice_get_within c.self.inside.clauses.clauses c.in_ok-k.k c.args.lits.now c.in_ok-k.ensures.some in
    let originals = c.len.ensures.len in
    let few = c.self.invariant.log.few in omega arith

pub returns-clause-some : goal.returns-clause-some
returns-clause-some c =
    let originals = c.len.ensures.len in
    subst (λ (l : LogValue). HasDerived l c.args.lits.now (c.len.result + c.in_ok-k.k + 1)) c.self.view_is
    (has_derived _ _ _ _ _ c.self.invariant c.args.lits.now c.in_ok-k.k (c.len.result + c.in_ok-k.k + 1) c.in_ok-k.ensures.some (omega arith))
