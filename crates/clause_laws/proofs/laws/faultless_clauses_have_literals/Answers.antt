use Rattle.clause_laws.proofs.CompactTraces.{right_has_literals}
use Rattle.clause_laws.proofs.laws.faultless_clauses_have_literals.Goals as goal

pub returns : goal.returns
returns c = right_has_literals
