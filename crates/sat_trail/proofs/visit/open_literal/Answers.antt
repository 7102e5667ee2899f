use Rattle.std.proofs.Common.{◌≢◌, sym, ap, refl, subst, eqb-true, arith}
use Rattle.clause_defs.specs.Literals.{Literal, negation, code}
use Rattle.clause_defs.specs.Clauses.{Has}
use Rattle.pch_base.specs.LitCodes.{code_injective}
use Rattle.sat_trail.proofs.PlaceLemmas.{at_has}
use Rattle.sat_trail.proofs.SearchLemmas.{next_too}
use Rattle.sat_trail.proofs.visit.open_literal.Goals as goal
use Rattle.sat_trail.proofs.visit.open_literal.Goals.{then-eq-via-then-eq, then-eq-via-else-eq+then-holds}

pub holds-requires : goal.holds-requires
holds-requires c =
    let there = at_has c.args.lits.now c.loop-m.m-index c.m-item.result (record { within = c.loop-m-test.true; read = c.m-item.is }) in
    let within = c.requires c.m-item.result there in
    let same = ap (λ (l : Literal). l.variable) c.negated.ensures in
    omega arith

pub loop-m-preserved : goal.loop-m-preserved
loop-m-preserved c =
    next_too (λ m. m ≢ c.args.o → Has c.args.values.now.lits (negation m)) c.args.lits.now c.loop-m.m-index c.m-item.result
    c.loop-m-test.true c.m-item.is c.loop-m.invariant
    (elim c.then-eq.branch [
      | then-eq-via-then-eq w ↦ λ ne. absurd (ne (code_injective c.m-item.result c.args.o (eqb-true (code c.m-item.result) (code c.args.o) (sym (w.if-eq.ensures {u = tt})))))
      | then-eq-via-else-eq+then-holds w ↦ λ ne. subst (Has c.args.values.now.lits) w.negated.ensures ((w.if-holds.ensures {u = tt}).holds.0 refl)
    ])

pub returns-in-loop-m-clause-member : goal.returns-in-loop-m-clause-member
returns-in-loop-m-clause-member c = at_has c.args.lits.now c.loop-m.m-index c.m-item.result (record { within = c.loop-m-test.true; read = c.m-item.is })
