use Rattle.std.proofs.Common.{◌≢◌, get_or, ap, sym, ◌∙◌, subst, arith}
use Rattle.clause_defs.specs.Literals.{Literal}
use Rattle.clause_defs.specs.Clauses.{Lits, Has}
use Rattle.log_defs.specs.Logs.{clause_of_log}
use Rattle.trail_defs.specs.Assignments.{IsAt}
use Rattle.conflict_chain.proofs.StepLemmas.{at_has}
use Rattle.conflict_analysis.specs.Analyses.{IsReasonAt, reason_in}
use Rattle.conflict_analysis.proofs.WalkLemmas.{at_same, reason_within}
use Rattle.conflict_analysis.proofs.walk.spare_reason.Goals as goal

-- the literal's variable has a place
pub bounds-reasons-variable : goal.bounds-reasons-variable
bounds-reasons-variable c =
    let l = c.index-trail-i.result in
    let at : IsAt c.args.trail.now c.args.i l = record { within = c.requires.place; read = c.index-trail-i.is } in
    let reasoned = c.requires.reasoned.1 in
    let known = (reasoned.assignment.literals l (at_has c.args.trail.now c.args.i l at)).1 in
    let size = reasoned.reason_size in
    let is = c.variable.ensures.variable in omega arith

pub bounds-levels-variable : goal.bounds-levels-variable
bounds-levels-variable c =
    let l = c.index-trail-i.result in
    let at : IsAt c.args.trail.now c.args.i l = record { within = c.requires.place; read = c.index-trail-i.is } in
    let reasoned = c.requires.reasoned.1 in
    let known = (reasoned.assignment.literals l (at_has c.args.trail.now c.args.i l at)).1 in
    let size = reasoned.level_size in
    let is = c.variable-2.ensures.variable in omega arith

-- a literal without a reason isn't of level 0
pub returns-then-reasons-variable-eq0-clause-none : goal.returns-then-reasons-variable-eq0-clause-none
returns-then-reasons-variable-eq0-clause-none c m at_m root =
    let l = c.index-trail-i.result in
    let at : IsAt c.args.trail.now c.args.i l = record { within = c.requires.place; read = c.index-trail-i.is } in
    let same = ap (λ (x : Literal). x.variable) (at_same c.args.trail.now c.args.i l m at at_m) in
    let reasoned = c.requires.reasoned.1 in
    let test = c.if-reasons-variable-eq0.true in
    reasoned.no_decision m (at_has c.args.trail.now c.args.i m at_m) root
    (ap (λ v. get_or c.args.reasons.now v 0) (same ∙ sym c.variable.ensures.variable) ∙ test)

-- its reason is over the variables
pub is_covered-requires-clause-within : goal.is_covered-requires-clause-within
is_covered-requires-clause-within c m h =
    let l = c.index-trail-i.result in
    let at : IsAt c.args.trail.now c.args.i l = record { within = c.requires.place; read = c.index-trail-i.is } in
    let reasoned = c.requires.reasoned.1 in
    let some : reason_in c.args.reasons.now l ≢ 0 =
    λ e. c.if-reasons-variable-eq0.false (ap (λ v. get_or c.args.reasons.now v 0) c.variable.ensures.variable ∙ e) in
    let reason = subst (IsReasonAt c.args.log.now c.args.trail.now c.args.i) (sym (c.reason_at-index.ensures l at)) (reasoned.implied c.args.i l at some) in
    let within =
    reason_within c.args.log.now.originals.variables c.args.trail.now c.args.i l (clause_of_log c.args.log.now c.reason_at-index.result)
    reasoned.assignment at (reason.implies l at) m (subst (λ (k : Lits). Has k m) c.clause.ensures.lits h) in
    let room = c.requires.room in omega arith
