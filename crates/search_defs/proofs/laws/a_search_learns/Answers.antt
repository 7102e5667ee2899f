use Rattle.search_defs.proofs.LearnLemmas.{solving_learned}
use Rattle.search_defs.proofs.laws.a_search_learns.Goals as goal

pub returns : goal.returns
returns c = λ log s d u b index j now solving known taught next spent learned. solving_learned log s solving known d u b taught index next spent j now learned
