use Rattle.miter_laws.proofs.Extension.{equal-from_unsat}
use Rattle.miter_laws.proofs.laws.unsatisfiable_means_equal.Goals as goal

-- an input where outputs differ would satisfy the miter
pub returns : goal.returns
returns c = equal-from_unsat
