use Rattle.std.proofs.Common.{ap, refl, subst, arith}
use Rattle.clause_defs.specs.Literals.{Literal, negation}
use Rattle.clause_defs.specs.Clauses.{Has}
use Rattle.sat_trail.proofs.PlaceLemmas.{at_has}
use Rattle.sat_trail.proofs.SearchLemmas.{next_too}
use Rattle.sat_trail.proofs.loose.first_open.Goals as goal

pub holds-requires : goal.holds-requires
holds-requires c =
    let there = at_has c.args.lits.now c.loop-m.m-index c.m-item.result (record { within = c.loop-m-test.true; read = c.m-item.is }) in
    let within = c.requires c.m-item.result there in
    let same = ap (λ (l : Literal). l.variable) c.negated.ensures in
    omega arith

pub loop-m-preserved : goal.loop-m-preserved
loop-m-preserved c =
    next_too (λ m. Has c.args.values.now.lits (negation m)) c.args.lits.now c.loop-m.m-index c.m-item.result
    c.loop-m-test.true c.m-item.is c.loop-m.invariant
    (subst (Has c.args.values.now.lits) c.negated.ensures ((c.if-holds.ensures {u = tt}).holds.0 refl))

pub returns-in-loop-m-clause-member : goal.returns-in-loop-m-clause-member
returns-in-loop-m-clause-member c = at_has c.args.lits.now c.loop-m.m-index c.m-item.result (record { within = c.loop-m-test.true; read = c.m-item.is })
