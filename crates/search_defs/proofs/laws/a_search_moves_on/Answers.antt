use Rattle.search_defs.proofs.LearnLemmas.{solving_moved}
use Rattle.search_defs.proofs.laws.a_search_moves_on.Goals as goal

pub returns : goal.returns
returns c = λ log s t solving same settled. solving_moved log s t solving same settled
