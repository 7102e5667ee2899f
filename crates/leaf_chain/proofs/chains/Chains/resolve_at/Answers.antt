use Rattle.std.proofs.Common.{◌↔◌, ◌⊎◌, ◌+◌, false, slice_set, length, length-set, take, ap, sym, ◌∙◌, subst, arith}
use Rattle.clause_defs.specs.Clauses.{Lits}
use Rattle.log_defs.specs.Logs.{IsIndexOf, all_clauses, clause_of_log}
use Rattle.log_laws.proofs.LogLemmas.{length-all_clauses}
use Rattle.log_laws.proofs.TraceOfLemmas.{Has-get_or}
use Rattle.leaf_defs.specs.Evaluated.{IsReason, variable_at}
use Rattle.leaf_chain.specs.Marks.{Chaining, IsMarked, HasVariable, IsRunning}
use Rattle.leaf_chain.proofs.MarkLemmas.{marked-unset}
use Rattle.leaf_chain.proofs.RunningLemmas.{evaluated_few, reason_variables, running_resolved}
use Rattle.leaf_chain.proofs.chains.Chains.resolve_at.Goals as goal

pub mark-requires : goal.mark-requires
mark-requires c = λ l h.
    let f = all_clauses c.args.log.now.originals.clauses c.args.log.now.derived in
    let reason : IsReason c.args.e.now.values (take c.args.i c.args.e.now.order) (variable_at c.args.e.now.order c.args.i) c.clause.result.now =
    subst (IsReason c.args.e.now.values (take c.args.i c.args.e.now.order) (variable_at c.args.e.now.order c.args.i))
    (sym (c.clause.ensures.lits ∙ ap (clause_of_log c.args.log.now) c.reason-reason.ensures))
    (c.requires.evaluated.reasons c.args.i c.requires.derived.0 c.requires.derived.1) in
    let within = reason_variables f c.args.e.now c.args.i c.clause.result.now c.requires.evaluated c.requires.derived.1 reason l h in
    let places = ap (λ (k : Chaining). length k.marks) c.self.view_is in
    omega (arith, c.requires.running.all_variables)

pub push_reserved-requires : goal.push_reserved-requires
push_reserved-requires c =
    let f = all_clauses c.args.log.now.originals.clauses c.args.log.now.derived in
    let places = ap (λ (k : Chaining). length k.marks) c.self.view_is in
    let ants = ap (λ (k : Chaining). length k.antecedents) c.self.view_is in
    let fits = evaluated_few f c.args.e.now c.requires.evaluated (omega (arith, c.self.invariant.some, c.requires.running.all_variables)) in
    omega (arith, c.self.invariant.antecedents, c.requires.running.few, c.requires.running.all_variables)

pub returns : goal.returns
returns c =
    let e = c.args.e.now in
    let v = variable_at e.order c.args.i in
    let places = ap (λ (k : Chaining). length k.marks) c.self.view_is in
    let running = subst (λ (k : Chaining). IsRunning e c.args.log.now k.marks k.antecedents (c.args.i + 1)) (sym c.self.view_is) c.requires.running in
    let there = subst (λ (k : Chaining). IsMarked k.marks v) (sym c.self.view_is) c.requires.there in
    let known = c.requires.evaluated.numbers c.args.i c.requires.derived.0 c.requires.derived.1 in
    let low = known.0 in
    let high = known.1 in
    let index : IsIndexOf c.args.log.now c.reason-reason.result = record {
      low = omega (arith, c.reason-reason.ensures);
      high = omega (arith, c.reason-reason.ensures, length-all_clauses c.args.log.now.originals.clauses c.args.log.now.derived);
    } in
    let reason : IsReason e.values (take c.args.i e.order) v (clause_of_log c.args.log.now c.reason-reason.result) =
    subst (IsReason e.values (take c.args.i e.order) v) (sym (ap (clause_of_log c.args.log.now) c.reason-reason.ensures))
    (c.requires.evaluated.reasons c.args.i c.requires.derived.0 c.requires.derived.1) in
    let within = (c.requires.evaluated.within v (Has-get_or e.order c.args.i 0 c.requires.derived.1)).1 in
    let many = length-set c.mark.new.marks.items v false in
    let after = running_resolved e c.args.log.now c.self.inside.marks.items (slice_set c.mark.new.marks.items v false) c.self.inside.antecedents.items
    c.args.i c.reason-reason.result c.requires.evaluated running c.requires.derived.0 c.requires.derived.1 there index reason
    (omega (arith, c.mark.ensures.places, running.all_variables))
    (λ u.
    let unset = marked-unset c.mark.new.marks.items v u (omega (arith, c.mark.ensures.places, running.all_variables)) in
    let own = subst (λ (k : Lits). IsMarked c.mark.new.marks.items u ↔ (IsMarked c.self.inside.marks.items u ⊎ HasVariable k u)) c.clause.ensures.lits (c.mark.ensures.marks u) in (
      λ m. let old = unset.0 m in (own.0 old.0, old.1),
      λ m. unset.1 (own.1 m.0, m.1),
    )) in
    rw c.variable.ensures.variable (rw c.push_reserved.ensures.items record { running = after })
