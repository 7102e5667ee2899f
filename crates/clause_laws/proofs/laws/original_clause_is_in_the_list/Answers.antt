use Rattle.clause_defs.specs.Traces.{antecedents_at}
use Rattle.clause_laws.proofs.Soundness.{original_with}
use Rattle.clause_laws.proofs.laws.original_clause_is_in_the_list.Goals as goal

pub returns : goal.returns
returns c f t w k = original_with f t w k (antecedents_at t k)
