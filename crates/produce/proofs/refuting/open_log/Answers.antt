use Rattle.std.proofs.Common.{length, ap, arith}
use Rattle.clause_defs.specs.Formulas.{Formula}
use Rattle.produce.proofs.SizeLemmas.{few_clauses}
use Rattle.produce.proofs.EndLemmas.{opened_over}
use Rattle.produce.proofs.refuting.open_log.Goals as goal

-- the configuration has one list of cells
pub returns-clause-over_miter : goal.returns-clause-over_miter
returns-clause-over_miter c =
    opened_over c.args.spec.now c.args.config.now c.in_ok-cells.cells c.in_ok-miter.miter c.args.budget c.open.result
    c.in_ok-cells.ensures c.in_ok-miter.ensures.formula c.open.ensures

-- a miter has few clauses
pub open-requires : goal.open-requires
open-requires c =
    let few = few_clauses c.args.spec.now c.args.config.now c.in_ok-cells.cells c.inputs-inputs.ensures.net c.geometry-geometry.ensures.known.geometry c.in_ok-cells.ensures in
    let same = ap (λ (f : Formula). length f.clauses) c.in_ok-miter.ensures.formula in
    omega (arith, c.requires.budget)
