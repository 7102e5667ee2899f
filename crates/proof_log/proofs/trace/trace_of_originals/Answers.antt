use Rattle.std.proofs.Common.{◌≡◌, ◌+◌, ◌-◌, ◌≤◌, [], ◌∷◌, ◌++◌, length, take, slice_get, Some, sym, ◌∙◌, ap, subst, arith}
use Rattle.std.proofs.lemmas.List.{length-take-le}
use Rattle.log_defs.specs.LogTraces.{original_entry}
use Rattle.proof_log.proofs.TracePushes.{other_index, original_more}
use Rattle.proof_log.proofs.trace.trace_of_originals.Goals as goal

pub push-requires-clause-other : goal.push-requires-clause-other
push-requires-clause-other c =
    let lt = c.loop-k-test.true in
    let end = c.len-k-end.ensures.len in
    let long = length-take-le c.loop-k.k c.args.originals.now.clauses (omega arith) in
    other_index c.loop-k.trace (take c.loop-k.k c.args.originals.now.clauses) [] (c.loop-k.k + 1) c.loop-k.invariant (omega arith)

pub loop-k-preserved : goal.loop-k-preserved
loop-k-preserved c =
    let k = c.loop-k.k in
    let place : k + 1 - 1 ≡ k = omega arith in
    let here : slice_get c.args.originals.now.clauses k ≡ Some c.clause.result.now =
    subst (λ n. slice_get c.args.originals.now.clauses n ≡ Some c.clause.result.now) place c.clause.ensures.lits in
    c.in_ok-push.ensures.ok ∙ ap (λ t. t ++ original_entry (k + 1) c.clause.result.now ∷ []) c.loop-k.invariant
    ∙ sym (original_more c.args.originals.now.clauses k c.clause.result.now (k + 1) here (omega arith))
