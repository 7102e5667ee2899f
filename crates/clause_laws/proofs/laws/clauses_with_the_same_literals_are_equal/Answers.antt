use Rattle.clause_laws.proofs.ClauseLemmas.{same_ordered}
use Rattle.clause_laws.proofs.laws.clauses_with_the_same_literals_are_equal.Goals as goal

pub returns : goal.returns
returns c = same_ordered
