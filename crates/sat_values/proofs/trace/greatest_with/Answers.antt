use Rattle.std.proofs.Common.{inl, inr, subst, ◌∙◌, arith}
use Rattle.clause_defs.specs.Literals.{IsLiteral}
use Rattle.pch_base.proofs.SetLemmas.{Has-take_next}
use Rattle.sat_values.proofs.TraceLemmas.{greatest_of-drop}
use Rattle.sat_values.proofs.trace.greatest_with.Goals as goal

-- one more literal counts for the greatest, and is within the limits
pub loop-l-preserved : goal.loop-l-preserved
loop-l-preserved c = record {
  greatest =
      let step = greatest_of-drop c.args.lits.now c.loop-l.l-index c.l-item.result (omega arith) c.l-item.is in
      let before = c.loop-l.invariant.greatest in
      let variable = c.variable.ensures.variable in
      let greater = c.max-greatest.ensures in
      omega arith;
  literals = λ x h. elim (Has-take_next c.args.lits.now c.loop-l.l-index c.l-item.result x (omega arith) h) [
    | inl earlier ↦ c.loop-l.invariant.literals x earlier
    | inr same ↦ subst IsLiteral (c.l-item.is ∙ same) c.variable.ensures.within_limits
  ];
}
