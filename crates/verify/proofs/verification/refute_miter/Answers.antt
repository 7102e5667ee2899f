use Rattle.std.proofs.Common.{inr, refl, subst}
use Rattle.clause_defs.specs.Formulas.{Formula}
use Rattle.clause_defs.specs.Verdicts.{VerdictOf}
use Rattle.clause_defs.specs.declared.verdict.TheConstants.{MAX_COMPUTED}
use Rattle.verify.proofs.verification.refute_miter.Goals as goal

-- a refuted miter shows that net and configuration are equal
pub returns-in-Refutes-clause-equal : goal.returns-in-Refutes-clause-equal
returns-in-Refutes-clause-equal g c =
    c.in_ok-miter.ensures.sound c.args.config.now c.requires.config c.in_ok-cells.ensures.sources
    (c.in_ok-verdict.ensures.sound c.in-Refutes.is)

-- any other verdict is that of the miter
pub returns : goal.returns
returns g c = record {
  refutes = tt;
  equal = tt;
  refused = inr (
    c.in_ok-verdict.verdict,
    refl,
    c.in_default.not-Refutes,
    (
      c.in_ok-cells.cells,
      c.in_ok-cells.ensures,
      subst (λ (f : Formula). VerdictOf f.clauses c.args.trace.now MAX_COMPUTED c.in_ok-verdict.verdict) c.in_ok-miter.ensures.formula
          c.in_ok-verdict.ensures.verdict,
    ),
  );
}
