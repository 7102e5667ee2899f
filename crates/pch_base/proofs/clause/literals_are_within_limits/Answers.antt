use Rattle.std.proofs.Common.{inl, inr, subst, ◌∙◌, arith}
use Rattle.clause_defs.specs.Literals.{IsLiteral}
use Rattle.pch_base.proofs.SetLemmas.{Has-take_next}
use Rattle.pch_base.proofs.clause.literals_are_within_limits.Goals as goal

-- one more literal is within the limits
pub loop-l-preserved : goal.loop-l-preserved
loop-l-preserved c x h =
    elim (Has-take_next c.args.lits.now c.loop-l.l-index c.l-item.result x (omega arith) h) [
      | inl earlier ↦ c.loop-l.invariant x earlier
      | inr same ↦ subst IsLiteral (c.l-item.is ∙ same) c.variable.ensures.within_limits
    ]
