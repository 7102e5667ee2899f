use Rattle.std.proofs.Common.{◌≡◌, ◌+◌, ◌↔◌, ◌⊎◌, Some, take, sym, subst, ◌∙◌, ap, arith}
use Rattle.std.proofs.lemmas.Bool.{eqb-true, eqb-false, not-true, not-false, true≢false}
use Rattle.std.proofs.lemmas.List.{take_all}
use Rattle.clause_defs.specs.Literals.{Literal, negation, code}
use Rattle.clause_defs.specs.Clauses.{Lits, Has}
use Rattle.pch_base.specs.LitCodes.{code_injective}
use Rattle.chain_check.specs.Steps.{IsPivot, AddsToStep, RepeatsNone}
use Rattle.chain_check.proofs.ClauseLists.{Has-get}
use Rattle.chain_check.proofs.StepLemmas.{adds_more, adds_same, pivot_same, pivot_first, pivot_again, several, step_kept, step_removed, repeats_still, pivot_absent}
use Rattle.chain_check.proofs.marks.Marks.resolve.Goals as goal
use Rattle.chain_check.proofs.marks.Marks.resolve.Goals.{then-add, else-add, in-None, in-Some+else-ne}

-- the negation of the antecedent's literal is over the marks' variables
pub holds-requires : goal.holds-requires
holds-requires c =
    let there = Has-get c.args.c.now c.loop-l.l-index c.l-item.result c.loop-l-test.true c.l-item.is in
    let within = c.requires.within c.l-item.result there in
    let same = c.loop-l.invariant.variables in
    let e = ap (λ (m : Literal). m.variable) c.negated-opposite.ensures in omega arith

-- the antecedent's literal is over the marks' variables
pub add-requires : goal.add-requires
add-requires c =
    let there = Has-get c.args.c.now c.loop-l.l-index c.l-item.result c.loop-l-test.true c.l-item.is in
    let within = c.requires.within c.l-item.result there in
    let same = c.loop-l.invariant.variables in omega arith

-- a literal that doesn't clash is one that the step adds
pub loop-l-preserved-then-not-holds : goal.loop-l-preserved-then-not-holds
loop-l-preserved-then-not-holds c =
    let r = c.args.self.now.running in
    let l = c.l-item.result in
    let lt = c.loop-l-test.true in
    let calm : Has r (negation l) → ⊥ = λ h. true≢false (sym (c.holds.ensures.1 (subst (λ (q : Lits). Has q c.negated-opposite.result) (sym c.loop-l.invariant.running) (subst (Has r) (sym c.negated-opposite.ensures) h))) ∙ c.if-not-holds.true) in
    record {
      variables = c.add.ensures.variables ∙ c.loop-l.invariant.variables;
      running = c.add.ensures.running ∙ c.loop-l.invariant.running;
      left = c.add.ensures.left ∙ c.loop-l.invariant.left;
      fresh = adds_more r c.args.c.now c.loop-l.l-index l lt c.l-item.is c.loop-l.self.fresh c.add.new.self.fresh calm
          (subst (λ (q : Lits). (x : Literal) → Has c.add.new.self.fresh x ↔ (Has c.loop-l.self.fresh x ⊎ ((x ≡ l) × (Has q x → ⊥)))) c.loop-l.invariant.running c.add.ensures.fresh)
          c.loop-l.invariant.fresh;
      counted = let before = c.loop-l.invariant.counted in elim c.if-add.branch [
        | then-add w ↦ let new = (w.if-add.ensures {u = tt}).new in let is = w.added-is in omega arith
        | else-add w ↦ let there = (w.if-add.ensures {u = tt}).there in let is = w.added-is in omega arith
      ];
      small = let before = c.loop-l.invariant.small in elim c.if-add.branch [
        | then-add w ↦ let is = w.added-is in omega arith
        | else-add w ↦ let is = w.added-is in omega arith
      ];
      repeats = elim c.if-add.branch [
        | then-add w ↦ λ e. repeats_still r c.args.c.now c.loop-l.l-index l lt c.l-item.is
            (λ h. absurd ((w.if-add.ensures {u = tt}).absent (subst (λ (q : Lits). Has q l) (sym c.loop-l.invariant.running) h)))
            (c.loop-l.invariant.repeats (sym w.repeats-is ∙ e))
        | else-add w ↦ λ e. absurd (true≢false (sym w.repeats-is ∙ e))
      ];
      pivot = pivot_same r c.args.c.now c.loop-l.l-index l lt c.l-item.is c.loop-l.pivot calm c.loop-l.invariant.pivot;
    }

-- a second clashing literal makes several
pub returns-then-ne-clause-step : goal.returns-then-ne-clause-step
returns-then-ne-clause-step c =
    let r = c.args.self.now.running in
    let l = c.l-item.result in
    let p = c.in-Some.other in
    let clash : Has r (negation l) = subst (Has r) c.negated-opposite.ensures (subst (λ (q : Lits). Has q c.negated-opposite.result) c.loop-l.invariant.running (c.holds.ensures.0 c.if-not-holds.false)) in
    several r c.args.c.now c.loop-l.l-index l c.loop-l-test.true c.l-item.is p
    (subst (IsPivot r (take c.loop-l.l-index c.args.c.now)) c.in-Some.is c.loop-l.invariant.pivot) clash
    (Has-get c.args.c.now c.loop-l.l-index l c.loop-l-test.true c.l-item.is)
    (λ e. eqb-false (code p) (code c.negated-opposite.result) (not-true _ (sym (c.if-ne.ensures {u = tt}))) (ap code (e ∙ sym c.negated-opposite.ensures)))

-- a clashing literal is the pivot
pub loop-l-preserved : goal.loop-l-preserved
loop-l-preserved c =
    let r = c.args.self.now.running in
    let l = c.l-item.result in
    let clash : Has r (negation l) = subst (Has r) c.negated-opposite.ensures (subst (λ (q : Lits). Has q c.negated-opposite.result) c.loop-l.invariant.running (c.holds.ensures.0 c.if-not-holds.false)) in
    record {
      variables = c.loop-l.invariant.variables;
      running = c.loop-l.invariant.running;
      left = c.loop-l.invariant.left;
      fresh = adds_same r c.args.c.now c.loop-l.l-index l c.loop-l-test.true c.l-item.is c.loop-l.self.fresh clash c.loop-l.invariant.fresh;
      counted = c.loop-l.invariant.counted;
      small = let before = c.loop-l.invariant.small in omega arith;
      repeats = λ e. repeats_still r c.args.c.now c.loop-l.l-index l c.loop-l-test.true c.l-item.is (λ h. clash) (c.loop-l.invariant.repeats e);
      pivot = elim c.match-pivot.branch [
        | in-None w ↦ subst (IsPivot r (take (c.loop-l.l-index + 1) c.args.c.now)) (ap Some (sym c.negated-opposite.ensures) ∙ sym w.pivot-is)
            (pivot_first r c.args.c.now c.loop-l.l-index l c.loop-l-test.true c.l-item.is clash
            (subst (IsPivot r (take c.loop-l.l-index c.args.c.now)) w.in-None.is c.loop-l.invariant.pivot))
        | in-Some+else-ne w ↦
            let p = w.in-Some.other in
            let same = code_injective p c.negated-opposite.result (eqb-true (code p) (code c.negated-opposite.result) (not-false _ (sym (w.if-ne.ensures {u = tt})))) in
            subst (IsPivot r (take (c.loop-l.l-index + 1) c.args.c.now)) (sym w.pivot-is)
            (pivot_again r c.args.c.now c.loop-l.l-index l c.loop-l-test.true c.l-item.is p clash (same ∙ c.negated-opposite.ensures)
            (subst (IsPivot r (take c.loop-l.l-index c.args.c.now)) w.in-Some.is c.loop-l.invariant.pivot))
      ];
    }

-- where no literal was repeated the clause doesn't have the pivot
pub has_pivot-requires : goal.has_pivot-requires
has_pivot-requires c =
    let r = c.args.self.now.running in
    let p = c.in-Some-pivot.pivot in
    let whole : take c.loop-l.l-index c.args.c.now ≡ c.args.c.now = take_all c.loop-l.l-index c.args.c.now c.loop-l-test.false in
    λ none. pivot_absent r c.args.c.now p
    (subst (λ (d : Lits). IsPivot r d (Some p)) whole (subst (IsPivot r (take c.loop-l.l-index c.args.c.now)) c.in-Some-pivot.is c.loop-l.invariant.pivot))
    (subst (RepeatsNone r) whole (c.loop-l.invariant.repeats none))

-- without a pivot no literal clashes
pub returns-then-not-has_pivot-clause-step : goal.returns-then-not-has_pivot-clause-step
returns-then-not-has_pivot-clause-step c =
    let r = c.args.self.now.running in
    let f = c.loop-l.self.fresh in
    let p = c.in-Some-pivot.pivot in
    let whole : take c.loop-l.l-index c.args.c.now ≡ c.args.c.now = take_all c.loop-l.l-index c.args.c.now c.loop-l-test.false in
    step_removed r c.args.c.now f c.settle.new.self.running p
    (subst (λ (d : Lits). IsPivot r d (Some p)) whole (subst (IsPivot r (take c.loop-l.l-index c.args.c.now)) c.in-Some-pivot.is c.loop-l.invariant.pivot))
    (subst (λ (d : Lits). AddsToStep r d f) whole c.loop-l.invariant.fresh)
    (subst (λ (q : Lits). (x : Literal) → Has c.settle.new.self.running x ↔ (Has q x ⊎ Has f x)) c.loop-l.invariant.running c.settle.ensures.running)
    (λ h. true≢false (sym (c.has_pivot.ensures.1 h) ∙ c.if-not-has_pivot.true))
    c.remove.new.self.running c.remove.ensures.running

-- with one pivot the running clause is the resolvent
pub returns-else-not-has_pivot-clause-step : goal.returns-else-not-has_pivot-clause-step
returns-else-not-has_pivot-clause-step c =
    let r = c.args.self.now.running in
    let f = c.loop-l.self.fresh in
    let p = c.in-Some-pivot.pivot in
    let whole : take c.loop-l.l-index c.args.c.now ≡ c.args.c.now = take_all c.loop-l.l-index c.args.c.now c.loop-l-test.false in
    step_kept r c.args.c.now f c.settle.new.self.running p
    (subst (λ (d : Lits). IsPivot r d (Some p)) whole (subst (IsPivot r (take c.loop-l.l-index c.args.c.now)) c.in-Some-pivot.is c.loop-l.invariant.pivot))
    (subst (λ (d : Lits). AddsToStep r d f) whole c.loop-l.invariant.fresh)
    (subst (λ (q : Lits). (x : Literal) → Has c.settle.new.self.running x ↔ (Has q x ⊎ Has f x)) c.loop-l.invariant.running c.settle.ensures.running)
    (c.has_pivot.ensures.0 c.if-not-has_pivot.false)
