use Rattle.std.proofs.Common.{refl, sym, subst, ap, inl, inr}
use Rattle.std.proofs.lemmas.Bool.{eqb-true, eqb-false}
use Rattle.clause_defs.specs.Literals.{code}
use Rattle.clause_defs.specs.Clauses.{Has}
use Rattle.pch_base.specs.LitCodes.{code_injective}
use Rattle.chain_check.proofs.ClauseLists.{Has-take_more, Has-get}
use Rattle.chain_check.proofs.marks.has.Goals as goal

-- the literal that was found is one of the clause
pub returns-then-eq : goal.returns-then-eq
returns-then-eq c =
    let m = c.m-item.result in
    let same = code_injective m c.args.l (eqb-true (code m) (code c.args.l) (sym (c.if-eq.ensures {u = tt}))) in
    (λ e. subst (Has c.args.c.now) same (Has-get c.args.c.now c.loop-m.m-index m c.loop-m-test.true c.m-item.is), λ h. refl)

-- one more literal isn't the one
pub loop-m-preserved : goal.loop-m-preserved
loop-m-preserved c h =
    let m = c.m-item.result in
    elim ((Has-take_more c.args.c.now c.loop-m.m-index m c.args.l c.loop-m-test.true c.m-item.is).0 h) [
      | inl k ↦ c.loop-m.invariant k
      | inr e ↦ eqb-false (code m) (code c.args.l) (sym (c.if-eq.ensures {u = tt})) (ap code e)
    ]
