use Rattle.std.proofs.Common.{◌≡◌, ℕ, List, ◌+◌, ◌<◌, ◌≤◌, [], ◌∷◌, ◌++◌, length, map, take, get_or, Some, sym, ◌∙◌, ap, subst, arith}
use Rattle.std.proofs.lemmas.List.{take_all}
use Rattle.std.proofs.lemmas.Option.{slice_get-get_or}
use Rattle.clause_defs.specs.Clauses.{Has}
use Rattle.log_defs.specs.LogTraces.{place_with, derived_entry, trace_of}
use Rattle.log_laws.proofs.TraceOfLemmas.{length-trace_of}
use Rattle.sat_values.proofs.ClauseLemmas.{Has-slice_get}
use Rattle.proof_log.specs.Kept.{derived_of}
use Rattle.proof_log.proofs.KeptLemmas.{length-derived_of, derived_there}
use Rattle.proof_log.proofs.TracePushes.{other_index, derived_more, own_indices, own_places, long_take}
use Rattle.proof_log.proofs.trace.trace_of_log.Goals as goal

pub list_places-requires : goal.list_places-requires
list_places-requires c index h =
    let cs = c.args.clauses.now.clauses in
    let lt = c.loop-k-test.true in
    let end = c.len-k-end.ensures.len in
    (own_indices _ cs _ c.requires.kept c.loop-k.k (get_or cs c.loop-k.k []) c.get.result.now (slice_get-get_or cs c.loop-k.k [] (omega arith)) c.get.ensures.list index h).0

pub push-requires-clause-other : goal.push-requires-clause-other
push-requires-clause-other c =
    let lt = c.loop-k-test.true in
    let end = c.len-k-end.ensures.len in
    let originals = c.len.ensures.len in
    let long = long_take _ _ _ c.requires.kept c.loop-k.k (omega arith) in
    other_index c.loop-k.trace _ _ (c.len.result + c.loop-k.k + 1) c.loop-k.invariant (omega arith)

pub push-requires-clause-ordered : goal.push-requires-clause-ordered
push-requires-clause-ordered c =
    (c.requires.kept.clauses_are c.clause.result.now (Has-slice_get c.args.clauses.now.clauses c.loop-k.k c.clause.result.now c.clause.ensures)).ordered

pub push-requires-clause-earlier : goal.push-requires-clause-earlier
push-requires-clause-earlier c p h =
    let lt = c.loop-k-test.true in
    let end = c.len-k-end.ensures.len in
    let ds = derived_of c.args.clauses.now.clauses c.args.antecedents.now.lists in
    let below = own_places _ _ _ c.requires.kept c.loop-k.k c.clause.result.now c.get.result.now c.clause.ensures c.get.ensures.list p
    (subst (λ ps. Has ps p) (c.deref.ensures.value ∙ c.in_ok-list_places.ensures) h) in
    let long = long_take _ _ _ c.requires.kept c.loop-k.k (omega arith) in
    let all = ap length c.loop-k.invariant in
    omega (arith, length-trace_of c.args.originals.now.clauses (take c.loop-k.k ds))

pub loop-k-preserved : goal.loop-k-preserved
loop-k-preserved c =
    let f = c.args.originals.now.clauses in
    let ds = derived_of c.args.clauses.now.clauses c.args.antecedents.now.lists in
    let k = c.loop-k.k in
    let j = c.len.result + k + 1 in
    let originals = c.len.ensures.len in
    c.in_ok-push.ensures.ok
    ∙ ap (λ (ps : List ℕ). c.loop-k.trace ++ record { index = j; stated = Some c.clause.result.now; antecedents = ps } ∷ []) (c.deref.ensures.value ∙ c.in_ok-list_places.ensures)
    ∙ ap (λ t. t ++ derived_entry j (record { lits = c.clause.result.now; antecedents = c.get.result.now }) ∷ []) c.loop-k.invariant
    ∙ sym (derived_more f ds k (record { lits = c.clause.result.now; antecedents = c.get.result.now }) j
    (derived_there c.args.clauses.now.clauses c.args.antecedents.now.lists k c.clause.result.now c.get.result.now c.clause.ensures c.get.ensures.list) (omega arith))

pub returns : goal.returns
returns c =
    let ds = derived_of c.args.clauses.now.clauses c.args.antecedents.now.lists in
    let past = c.loop-k-test.false in
    let end = c.len-k-end.ensures.len in
    let long = length-derived_of c.args.clauses.now.clauses c.args.antecedents.now.lists c.requires.kept.as_many in
    c.loop-k.invariant ∙ ap (trace_of c.args.originals.now.clauses) (take_all c.loop-k.k ds (omega arith))
