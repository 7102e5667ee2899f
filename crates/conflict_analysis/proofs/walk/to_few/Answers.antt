use Rattle.std.proofs.Common.{◌≡◌, ◌-◌, ap, sym, ◌∙◌, subst, arith}
use Rattle.clause_defs.specs.Literals.{Literal, negation}
use Rattle.clause_defs.specs.Clauses.{Has}
use Rattle.log_defs.specs.Logs.{clause_of_log}
use Rattle.trail_defs.specs.Assignments.{IsAt}
use Rattle.assignment.proofs.ApartLemmas.{few_literals}
use Rattle.conflict_chain.proofs.StepLemmas.{at_has}
use Rattle.conflict_analysis.specs.Analyses.{level_in}
use Rattle.conflict_analysis.proofs.WalkLemmas.{to_few_pass, to_few_more, few_next, reason_within}
use Rattle.conflict_analysis.proofs.walk.to_few.Goals as goal
use Rattle.conflict_analysis.proofs.walk.to_few.Goals.{then-not-has-via-then-not-has, then-not-has-via-else-not-has+then-has_present}

-- the literal is over the variables
pub has-requires : goal.has-requires
has-requires c =
    let high = c.loop-i.invariant.walk.within in
    let test = c.loop-i-test.true in
    let l = c.index-trail-i.result in
    let at : IsAt c.args.trail.now (c.loop-i.i - 1) l = record { within = omega arith; read = c.index-trail-i.is } in
    let known = (c.requires.reasoned.assignment.literals l (at_has c.args.trail.now (c.loop-i.i - 1) l at)).1 in
    let same = ap (λ (x : Literal). x.variable) c.negated-negated.ensures in
    let room = c.loop-i.invariant.room in
    let start = c.requires.room in omega arith

-- a literal that isn't there, or is of the present level
pub loop-i-preserved-then-not-has : goal.loop-i-preserved-then-not-has
loop-i-preserved-then-not-has c =
    let high = c.loop-i.invariant.walk.within in
    let test = c.loop-i-test.true in
    let l = c.index-trail-i.result in
    let i = c.loop-i.i - 1 in
    let p = c.args.chain.now.present in
    let at : IsAt c.args.trail.now i l = record { within = omega arith; read = c.index-trail-i.is } in
    let walk = few_next c.args.log.now c.args.present c.args.trail.now c.args.levels.now p c.loop-i.i c.loop-i.chain (omega arith) c.loop-i.invariant.walk in
    record {
      walk =
          to_few_pass c.args.log.now c.args.present c.args.trail.now c.args.levels.now c.args.reasons.now c.args.indices.now c.requires.reasoned i l at
          c.args.present c.loop-i.chain p walk
          (λ h.
          let here = subst (Has c.loop-i.chain.lits) (sym c.negated-negated.ensures) h in
          elim c.then-not-has.branch [
            | then-not-has-via-then-not-has w ↦ absurd (let told = c.has.ensures.1 here in let not = w.if-not-has.true in cc)
            | then-not-has-via-else-not-has+then-has_present w ↦
                let is = subst (Has c.loop-i.chain.present) c.negated-negated.ensures (w.has_present.ensures.0 w.if-has_present.true) in
                let own : level_in c.args.levels.now l ≡ c.args.present = (walk.split.by_level (negation l) h).0 is in
                let low = c.requires.high in λ root. absurd (omega arith)
          ]);
      room = c.loop-i.invariant.room;
    }

-- one that stays, of a level above 0
pub loop-i-preserved-in_default : goal.loop-i-preserved-in_default
loop-i-preserved-in_default c =
    let high = c.loop-i.invariant.walk.within in
    let test = c.loop-i-test.true in
    let l = c.index-trail-i.result in
    let i = c.loop-i.i - 1 in
    let p = c.args.chain.now.present in
    let at : IsAt c.args.trail.now i l = record { within = omega arith; read = c.index-trail-i.is } in
    let walk = few_next c.args.log.now c.args.present c.args.trail.now c.args.levels.now p c.loop-i.i c.loop-i.chain (omega arith) c.loop-i.invariant.walk in
    record {
      walk =
          to_few_pass c.args.log.now c.args.present c.args.trail.now c.args.levels.now c.args.reasons.now c.args.indices.now c.requires.reasoned i l at
          c.args.present c.loop-i.chain p walk (λ h. c.in_default.ensures.none l at);
      room = c.loop-i.invariant.room;
    }

-- no more literals than variables
pub resolve_at-requires-clause-few : goal.resolve_at-requires-clause-few
resolve_at-requires-clause-few c =
    let few = few_literals c.args.log.now.originals.variables c.args.trail.now c.requires.reasoned.assignment in
    let room = c.loop-i.invariant.room in
    let start = c.requires.room in omega arith

-- the reason is over the variables
pub resolve_at-requires-clause-within : goal.resolve_at-requires-clause-within
resolve_at-requires-clause-within c m h =
    let high = c.loop-i.invariant.walk.within in
    let test = c.loop-i-test.true in
    let l = c.index-trail-i.result in
    let i = c.loop-i.i - 1 in
    let at : IsAt c.args.trail.now i l = record { within = omega arith; read = c.index-trail-i.is } in
    let reason = c.in-Some.ensures.some in
    let within =
    reason_within c.args.log.now.originals.variables c.args.trail.now i l (clause_of_log c.args.log.now c.in-Some.index) c.requires.reasoned.assignment at
    (reason.implies l at) m h in
    let room = c.loop-i.invariant.room in
    let start = c.requires.room in omega arith

-- one that was resolved away
pub loop-i-preserved : goal.loop-i-preserved
loop-i-preserved c =
    let high = c.loop-i.invariant.walk.within in
    let test = c.loop-i-test.true in
    let l = c.index-trail-i.result in
    let i = c.loop-i.i - 1 in
    let p = c.args.chain.now.present in
    let at : IsAt c.args.trail.now i l = record { within = omega arith; read = c.index-trail-i.is } in
    let walk = few_next c.args.log.now c.args.present c.args.trail.now c.args.levels.now p c.loop-i.i c.loop-i.chain (omega arith) c.loop-i.invariant.walk in
    let there : Has c.loop-i.chain.lits (negation l) = subst (Has c.loop-i.chain.lits) c.negated-negated.ensures (c.has.ensures.0 c.if-not-has.false) in
    let lower : Has c.loop-i.chain.present (negation l) → ⊥ =
    λ h. (let told = c.has_present.ensures.1 (subst (Has c.loop-i.chain.present) (sym c.negated-negated.ensures) h) in let not = c.if-has_present.false in absurd (cc)) in
    let reason = c.in-Some.ensures.some in
    record {
      walk =
          to_few_more c.args.log.now c.args.present c.args.trail.now c.args.levels.now c.args.reasons.now c.args.indices.now c.requires.reasoned i l at
          c.args.present c.loop-i.chain c.resolve_at.new.self (clause_of_log c.args.log.now c.in-Some.index) p (omega arith) walk there lower (reason.implies l at)
          c.resolve_at.ensures.conflict c.resolve_at.ensures.split (c.resolve_at.ensures.lits l at);
      room = c.resolve_at.ensures.variables ∙ c.loop-i.invariant.room;
    }
