use Rattle.std.proofs.Common.{refl, sym, ◌∙◌, subst}
use Rattle.clause_defs.specs.Clauses.{Lits, Has}
use Rattle.chain_check.proofs.ClauseLists.{Has-get}
use Rattle.tree_refute.proofs.BranchLemmas.{none_more}
use Rattle.tree_refute.proofs.search.has_variable.Goals as goal

pub returns-then-variable : goal.returns-then-variable
returns-then-variable c =
    let there = Has-get c.clause-l-items.result.now c.loop-l.l-index c.l-item.result c.loop-l-test.true c.l-item.is in (
      λ _. (
        c.l-item.result,
        subst (λ (k : Lits). Has k c.l-item.result) c.clause-l-items.ensures.lits there,
        sym c.variable.ensures.variable ∙ c.if-variable.true,
      ),
      λ _. refl,
    )

pub loop-l-preserved : goal.loop-l-preserved
loop-l-preserved c =
    none_more c.clause-l-items.result.now c.loop-l.l-index c.args.variable c.l-item.result c.loop-l-test.true c.l-item.is c.loop-l.invariant
    (λ same. c.if-variable.false (c.variable.ensures.variable ∙ same))
