use Rattle.clause_laws.proofs.ClauseOf.{IsOrdered-clause_of, SameSet-clause_of, clause_of-ordered}
use Rattle.clause_laws.proofs.laws.clause_of_a_list.Goals as goal

pub returns : goal.returns
returns c = record { ordered = IsOrdered-clause_of; same = SameSet-clause_of; one = clause_of-ordered }
