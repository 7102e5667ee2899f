use Rattle.std.proofs.Common.{subst}
use Rattle.leaf_defs.specs.Evaluated.{Evaluated}
use Rattle.leaf_chain.specs.Growing.{FitsVariables}
use Rattle.leaf_chain.proofs.PlaceLemmas.{fits_variables}
use Rattle.leaf_chain.proofs.evaluation.Evaluation.chosen.Goals as goal

pub returns-clause-places : goal.returns-clause-places
returns-clause-places c = subst (λ (e : Evaluated). FitsVariables e) c.self.view_is (fits_variables _ _ _ c.self.invariant)
