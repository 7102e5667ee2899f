use Rattle.std.proofs.Common.{subst, arith}
use Rattle.leaf_defs.specs.Evaluated.{Evaluated}
use Rattle.leaf_chain.specs.Growing.{FitsVariables}
use Rattle.leaf_chain.proofs.PlaceLemmas.{fits_variables}
use Rattle.leaf_chain.proofs.evaluation.Evaluation.len.Goals as goal

pub overflow_cast-result : goal.overflow_cast-result
overflow_cast-result c = let fits = fits_variables _ _ _ c.self.invariant in omega (arith, fits.few, fits.small, c.len.ensures)

pub returns-clause-places : goal.returns-clause-places
returns-clause-places c = subst (λ (e : Evaluated). FitsVariables e) c.self.view_is (fits_variables _ _ _ c.self.invariant)
