use Rattle.std.proofs.Common.{◌≡◌, ◌≢◌, sym, ◌∙◌, subst, arith}
use Rattle.std.proofs.lemmas.List.{take_all}
use Rattle.clause_defs.specs.Literals.{Literal}
use Rattle.clause_defs.specs.Clauses.{Lits, Has}
use Rattle.chain_check.proofs.ClauseLists.{Has-get}
use Rattle.trail_defs.specs.Trails.{reason_of}
use Rattle.sat_trail.proofs.SearchLemmas.{next_too}
use Rattle.cdcl_log.proofs.ForgettingLemmas.{no_reason}
use Rattle.cdcl_log.proofs.forgetting.is_reason.Goals as goal

-- each literal has a variable of the trail
pub has_implied-requires-clause-high : goal.has_implied-requires-clause-high
has_implied-requires-clause-high c =
    let l = c.l-item.result in
    let there = Has-get c.lits-l-items.result.now c.loop-l.l-index l c.loop-l-test.true c.l-item.is in
    let within = c.lits-l-items.ensures.within l there in
    let is = c.variable.ensures.variable in omega arith

-- it didn't imply one literal more
pub loop-l-preserved : goal.loop-l-preserved
loop-l-preserved c =
    next_too
    (λ m. (x : Literal) → Has c.args.trail.now.lits x → x.variable ≡ m.variable → reason_of c.args.trail.now x ≢ c.args.number)
    c.lits-l-items.result.now c.loop-l.l-index c.l-item.result c.loop-l-test.true c.l-item.is c.loop-l.invariant
    (λ x here e. c.has_implied.ensures.none c.if-has_implied.false x here (e ∙ sym c.variable.ensures.variable))

-- it implied none of its literals
pub returns : goal.returns
returns c none =
    no_reason c.args.trail.now c.present.ensures.known c.args.number c.lits-l-items.result.now c.lits-l-items.ensures.lits
    (λ m h. c.loop-l.invariant m
    (subst (λ (ls : Lits). Has ls m) (sym (take_all c.loop-l.l-index c.lits-l-items.result.now (let end = c.loop-l-test.false in omega arith))) h))
