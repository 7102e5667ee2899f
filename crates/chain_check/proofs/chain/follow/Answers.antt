use Rattle.std.proofs.Common.{ℕ, List, get_or, map, None, Ok, Err, refl, sym, ◌∙◌, subst, arith}
use Rattle.clause_defs.specs.Clauses.{Lits, SameSet}
use Rattle.clause_defs.specs.Resolution.{Step, NoClash, ManyClash, Resolves}
use Rattle.clause_defs.specs.Traces.{index_at, antecedents_at}
use Rattle.clause_defs.specs.Verdicts.{ChainFault}
use Rattle.clause_defs.specs.declared.verdict.ChainError.{ChainError}
use Rattle.chain_check.specs.ByPlace.{parts_of}
use Rattle.chain_check.specs.Known.{literals_at}
use Rattle.chain_check.proofs.ChainLemmas.{Has-get_or, chain_begins, resolves_begins, chain_clashes_often, chain_clashes_never, chain_steps, resolves_steps, chain_stops, resolves_stops, some_antecedent}
use Rattle.chain_check.proofs.chain.follow.Goals as goal

-- the first antecedent is a clause of the trace
pub known_literals-requires-clause-within : goal.known_literals-requires-clause-within
known_literals-requires-clause-within c =
    let ps = c.antecedents-antecedents.result.now in
    let some = some_antecedent ps (antecedents_at c.args.t.now c.args.k) c.antecedents-antecedents.ensures.antecedents c.requires.derived in
    let earlier = c.antecedents-antecedents.ensures.earlier (get_or ps 0 0) (Has-get_or ps 0 some) in
    let within = c.requires.within in omega arith

-- the first antecedent is the running clause that the chain begins with
pub loop-step-init : goal.loop-step-init
loop-step-init c =
    let ps = c.antecedents-antecedents.result.now in
    let g = literals_at c.args.t.now (parts_of c.args.lits.now c.args.spans.now) in
    let some = some_antecedent ps (antecedents_at c.args.t.now c.args.k) c.antecedents-antecedents.ensures.antecedents c.requires.derived in
    let first = subst (SameSet c.load.new.self.running) c.known_literals.ensures c.load.ensures.running in
    record {
      variables = c.load.ensures.variables ∙ c.clear.ensures.variables;
      between_steps = c.load.ensures.fresh;
      room = let cleared = c.clear.ensures.left in let loaded = c.load.ensures.left in omega arith;
      rest = chain_begins g (index_at c.args.t.now c.args.k) ps c.load.new.self.running some first;
      clause = resolves_begins g (index_at c.args.t.now c.args.k) ps c.load.new.self.running some first;
    }

-- each later antecedent is a clause of the trace
pub known_literals-requires-in-loop-step-clause-within : goal.known_literals-requires-in-loop-step-clause-within
known_literals-requires-in-loop-step-clause-within c =
    let ps = c.antecedents-antecedents.result.now in
    let earlier = c.antecedents-antecedents.ensures.earlier (get_or ps c.loop-step.step 0) (Has-get_or ps c.loop-step.step c.loop-step-test.true) in
    let within = c.requires.within in omega arith

-- where no literal clashes, the chain ends with that fault
pub returns-in-NoClash-clause-end : goal.returns-in-NoClash-clause-end
returns-in-NoClash-clause-end c =
    let t = c.args.t.now in
    let g = literals_at t (parts_of c.args.lits.now c.args.spans.now) in
    let ps = c.antecedents-antecedents.result.now in
    let step = c.loop-step.step in
    let none = subst (NoClash c.loop-step.m.running) c.known_literals-in-loop-step.ensures (c.in-NoClash.ensures {u = tt}).step in
    let whole = c.loop-step.invariant.rest _ (chain_clashes_never g (index_at t c.args.k) ps step c.loop-step.m.running c.loop-step-test.true none) in
    subst (λ (qs : List ℕ). ChainFault (index_at t c.args.k) None (map g qs) (Err (ChainError.NoClash c.index-clause.result step))) c.antecedents-antecedents.ensures.antecedents
    (subst (λ (i : ℕ). ChainFault (index_at t c.args.k) None (map g ps) (Err (ChainError.NoClash i step))) (sym c.index-clause.ensures.index) whole)

-- where several literals clash, the chain ends with that fault
pub returns-in-ManyClash-clause-end : goal.returns-in-ManyClash-clause-end
returns-in-ManyClash-clause-end c =
    let t = c.args.t.now in
    let g = literals_at t (parts_of c.args.lits.now c.args.spans.now) in
    let ps = c.antecedents-antecedents.result.now in
    let step = c.loop-step.step in
    let several = subst (ManyClash c.loop-step.m.running) c.known_literals-in-loop-step.ensures (c.in-ManyClash.ensures {u = tt}).step in
    let whole = c.loop-step.invariant.rest _ (chain_clashes_often g (index_at t c.args.k) ps step c.loop-step.m.running c.loop-step-test.true several) in
    subst (λ (qs : List ℕ). ChainFault (index_at t c.args.k) None (map g qs) (Err (ChainError.ManyClash c.index-clause.result step))) c.antecedents-antecedents.ensures.antecedents
    (subst (λ (i : ℕ). ChainFault (index_at t c.args.k) None (map g ps) (Err (ChainError.ManyClash i step))) (sym c.index-clause.ensures.index) whole)

-- a step leaves what the chain comes to as it is
pub loop-step-preserved : goal.loop-step-preserved
loop-step-preserved c =
    let t = c.args.t.now in
    let g = literals_at t (parts_of c.args.lits.now c.args.spans.now) in
    let ps = c.antecedents-antecedents.result.now in
    let step = c.loop-step.step in
    let r = c.loop-step.m.running in
    let s = c.resolve.new.self.running in
    let own = c.in-OneClash.ensures {u = tt} in
    let one : Step r (g (get_or ps step 0)) s = subst (λ (d : Lits). Step r d s) c.known_literals-in-loop-step.ensures own.step in
    record {
      variables = own.variables ∙ c.loop-step.invariant.variables;
      between_steps = own.fresh refl;
      room = let left = own.left refl in let before = c.loop-step.invariant.room in omega arith;
      rest = λ end h. c.loop-step.invariant.rest end (chain_steps g (index_at t c.args.k) ps step r s c.loop-step-test.true one end h);
      clause = λ q h. c.loop-step.invariant.clause q (resolves_steps g (index_at t c.args.k) ps step r s c.loop-step-test.true one q h);
    }

-- behind the last antecedent the chain has no fault
pub returns-clause-end : goal.returns-clause-end
returns-clause-end c =
    let t = c.args.t.now in
    let g = literals_at t (parts_of c.args.lits.now c.args.spans.now) in
    let ps = c.antecedents-antecedents.result.now in
    subst (λ (qs : List ℕ). ChainFault (index_at t c.args.k) None (map g qs) (Ok tt)) c.antecedents-antecedents.ensures.antecedents
    (c.loop-step.invariant.rest _ (chain_stops g (index_at t c.args.k) ps c.loop-step.step c.loop-step.m.running c.loop-step-test.false))

-- behind the last antecedent the running clause is what follows
pub returns-clause-clause : goal.returns-clause-clause
returns-clause-clause c =
    let t = c.args.t.now in
    let g = literals_at t (parts_of c.args.lits.now c.args.spans.now) in
    let ps = c.antecedents-antecedents.result.now in
    let r = c.loop-step.m.running in
    subst (λ (qs : List ℕ). Resolves (map g qs) r) c.antecedents-antecedents.ensures.antecedents
    (c.loop-step.invariant.clause _ (resolves_stops g (index_at t c.args.k) ps c.loop-step.step r c.loop-step-test.false))
