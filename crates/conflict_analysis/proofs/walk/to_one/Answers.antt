use Rattle.std.proofs.Common.{◌+◌, ◌-◌, ◌<◌, length, ap, sym, ◌∙◌, subst, arith}
use Rattle.clause_defs.specs.Literals.{Literal}
use Rattle.clause_defs.specs.Clauses.{Has}
use Rattle.log_defs.specs.Logs.{clause_of_log}
use Rattle.trail_defs.specs.Assignments.{IsAt}
use Rattle.assignment.proofs.ApartLemmas.{few_literals}
use Rattle.conflict_chain.proofs.StepLemmas.{at_has}
use Rattle.conflict_analysis.specs.Walks.{IsToOne}
use Rattle.conflict_analysis.proofs.WalkLemmas.{to_one_positive, to_one_pass, to_one_more, next_reason, reason_within}
use Rattle.conflict_analysis.proofs.walk.to_one.Goals as goal

-- there is a place below
pub overflow_sub-i : goal.overflow_sub-i
overflow_sub-i c =
    let low = to_one_positive c.args.log.now c.args.present c.args.trail.now c.args.levels.now c.loop-i.i c.loop-i.chain c.loop-i.invariant.walk in omega arith

pub bounds-trail-i : goal.bounds-trail-i
bounds-trail-i c =
    let low = to_one_positive c.args.log.now c.args.present c.args.trail.now c.args.levels.now c.loop-i.i c.loop-i.chain c.loop-i.invariant.walk in
    let high = c.loop-i.invariant.walk.within in omega arith

-- its literal is over the variables
pub has_present-requires : goal.has_present-requires
has_present-requires c =
    let low = to_one_positive c.args.log.now c.args.present c.args.trail.now c.args.levels.now c.loop-i.i c.loop-i.chain c.loop-i.invariant.walk in
    let high = c.loop-i.invariant.walk.within in
    let l = c.index-trail-i.result in
    let at : IsAt c.args.trail.now (c.loop-i.i - 1) l = record { within = omega arith; read = c.index-trail-i.is } in
    let known = (c.requires.reasoned.assignment.literals l (at_has c.args.trail.now (c.loop-i.i - 1) l at)).1 in
    let same = ap (λ (x : Literal). x.variable) c.negated.ensures in
    let room = c.loop-i.invariant.room in
    let start = c.requires.room in omega arith

pub loop-i-smaller-then-not-has_present : goal.loop-i-smaller-then-not-has_present
loop-i-smaller-then-not-has_present c =
    let low = to_one_positive c.args.log.now c.args.present c.args.trail.now c.args.levels.now c.loop-i.i c.loop-i.chain c.loop-i.invariant.walk in omega arith

-- a literal that the running clause doesn't have
pub loop-i-preserved-then-not-has_present : goal.loop-i-preserved-then-not-has_present
loop-i-preserved-then-not-has_present c =
    let low = to_one_positive c.args.log.now c.args.present c.args.trail.now c.args.levels.now c.loop-i.i c.loop-i.chain c.loop-i.invariant.walk in
    let high = c.loop-i.invariant.walk.within in
    let l = c.index-trail-i.result in
    let i = c.loop-i.i - 1 in
    let at : IsAt c.args.trail.now i l = record { within = omega arith; read = c.index-trail-i.is } in
    let walk : IsToOne c.args.log.now c.args.present c.args.trail.now c.args.levels.now (i + 1) c.loop-i.chain =
    subst (λ n. IsToOne c.args.log.now c.args.present c.args.trail.now c.args.levels.now n c.loop-i.chain) (omega arith) c.loop-i.invariant.walk in
    record {
      walk =
          to_one_pass c.args.log.now c.args.present c.args.trail.now c.args.levels.now c.args.reasons.now c.args.indices.now c.requires.reasoned i l at
          c.args.present c.loop-i.chain walk
          (λ h. let told = c.has_present.ensures.1 (subst (Has c.loop-i.chain.present) (sym c.negated.ensures) h) in let not = c.if-not-has_present.true in absurd (cc));
      room = c.loop-i.invariant.room;
    }

-- no more literals than variables
pub resolve_at-requires-clause-few : goal.resolve_at-requires-clause-few
resolve_at-requires-clause-few c =
    let few = few_literals c.args.log.now.originals.variables c.args.trail.now c.requires.reasoned.assignment in
    let room = c.loop-i.invariant.room in
    let start = c.requires.room in omega arith

pub resolve_at-requires-clause-index : goal.resolve_at-requires-clause-index
resolve_at-requires-clause-index c =
    let low = to_one_positive c.args.log.now c.args.present c.args.trail.now c.args.levels.now c.loop-i.i c.loop-i.chain c.loop-i.invariant.walk in
    let high = c.loop-i.invariant.walk.within in
    let l = c.index-trail-i.result in
    let at : IsAt c.args.trail.now (c.loop-i.i - 1) l = record { within = omega arith; read = c.index-trail-i.is } in
    let there = subst (Has c.loop-i.chain.present) c.negated.ensures (c.has_present.ensures.0 c.if-not-has_present.false) in
    let two : 1 < length c.loop-i.chain.present = let is = c.present.ensures.present in let test = c.loop-i-test.true in omega arith in
    let reason =
    next_reason c.args.log.now c.args.present c.args.trail.now c.args.levels.now c.args.reasons.now c.args.indices.now c.requires.reasoned c.loop-i.i c.loop-i.chain
    c.loop-i.invariant.walk l at c.present.ensures.ordered two there c.reason_at-index.result (c.reason_at-index.ensures l at) in
    reason.index_is

-- the literal has a reason
pub resolve_at-requires-clause-reason : goal.resolve_at-requires-clause-reason
resolve_at-requires-clause-reason c =
    let low = to_one_positive c.args.log.now c.args.present c.args.trail.now c.args.levels.now c.loop-i.i c.loop-i.chain c.loop-i.invariant.walk in
    let high = c.loop-i.invariant.walk.within in
    let l = c.index-trail-i.result in
    let at : IsAt c.args.trail.now (c.loop-i.i - 1) l = record { within = omega arith; read = c.index-trail-i.is } in
    let there = subst (Has c.loop-i.chain.present) c.negated.ensures (c.has_present.ensures.0 c.if-not-has_present.false) in
    let two : 1 < length c.loop-i.chain.present = let is = c.present.ensures.present in let test = c.loop-i-test.true in omega arith in
    let reason =
    next_reason c.args.log.now c.args.present c.args.trail.now c.args.levels.now c.args.reasons.now c.args.indices.now c.requires.reasoned c.loop-i.i c.loop-i.chain
    c.loop-i.invariant.walk l at c.present.ensures.ordered two there c.reason_at-index.result (c.reason_at-index.ensures l at) in
    reason.implies

pub resolve_at-requires-clause-within : goal.resolve_at-requires-clause-within
resolve_at-requires-clause-within c m h =
    let low = to_one_positive c.args.log.now c.args.present c.args.trail.now c.args.levels.now c.loop-i.i c.loop-i.chain c.loop-i.invariant.walk in
    let high = c.loop-i.invariant.walk.within in
    let l = c.index-trail-i.result in
    let at : IsAt c.args.trail.now (c.loop-i.i - 1) l = record { within = omega arith; read = c.index-trail-i.is } in
    let there = subst (Has c.loop-i.chain.present) c.negated.ensures (c.has_present.ensures.0 c.if-not-has_present.false) in
    let two : 1 < length c.loop-i.chain.present = let is = c.present.ensures.present in let test = c.loop-i-test.true in omega arith in
    let reason =
    next_reason c.args.log.now c.args.present c.args.trail.now c.args.levels.now c.args.reasons.now c.args.indices.now c.requires.reasoned c.loop-i.i c.loop-i.chain
    c.loop-i.invariant.walk l at c.present.ensures.ordered two there c.reason_at-index.result (c.reason_at-index.ensures l at) in
    let within = reason_within c.args.log.now.originals.variables c.args.trail.now (c.loop-i.i - 1) l (clause_of_log c.args.log.now c.reason_at-index.result) c.requires.reasoned.assignment at (reason.implies l at) m h in
    let room = c.loop-i.invariant.room in
    let start = c.requires.room in omega arith

-- a literal that was resolved away
pub loop-i-preserved : goal.loop-i-preserved
loop-i-preserved c =
    let low = to_one_positive c.args.log.now c.args.present c.args.trail.now c.args.levels.now c.loop-i.i c.loop-i.chain c.loop-i.invariant.walk in
    let high = c.loop-i.invariant.walk.within in
    let l = c.index-trail-i.result in
    let i = c.loop-i.i - 1 in
    let at : IsAt c.args.trail.now i l = record { within = omega arith; read = c.index-trail-i.is } in
    let walk : IsToOne c.args.log.now c.args.present c.args.trail.now c.args.levels.now (i + 1) c.loop-i.chain =
    subst (λ n. IsToOne c.args.log.now c.args.present c.args.trail.now c.args.levels.now n c.loop-i.chain) (omega arith) c.loop-i.invariant.walk in
    let there = subst (Has c.loop-i.chain.present) c.negated.ensures (c.has_present.ensures.0 c.if-not-has_present.false) in
    let two : 1 < length c.loop-i.chain.present = let is = c.present.ensures.present in let test = c.loop-i-test.true in omega arith in
    let reason =
    next_reason c.args.log.now c.args.present c.args.trail.now c.args.levels.now c.args.reasons.now c.args.indices.now c.requires.reasoned c.loop-i.i c.loop-i.chain
    c.loop-i.invariant.walk l at c.present.ensures.ordered two there c.reason_at-index.result (c.reason_at-index.ensures l at) in
    record {
      walk =
          to_one_more c.args.log.now c.args.present c.args.trail.now c.args.levels.now c.args.reasons.now c.args.indices.now c.requires.reasoned i l at
          c.args.present c.loop-i.chain c.resolve_at.new.self (clause_of_log c.args.log.now c.reason_at-index.result) walk c.present.ensures.ordered two there
          (reason.implies l at) c.resolve_at.ensures.conflict c.resolve_at.ensures.split (c.resolve_at.ensures.lits l at);
      room = c.resolve_at.ensures.variables ∙ c.loop-i.invariant.room;
    }
