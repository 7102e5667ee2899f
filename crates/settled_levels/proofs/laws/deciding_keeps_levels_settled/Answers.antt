use Rattle.settled_levels.proofs.KeepLemmas.{settled_assigned}
use Rattle.settled_levels.proofs.laws.deciding_keeps_levels_settled.Goals as goal

pub returns : goal.returns
returns c = λ t s l known lits levels own present clauses now settled. settled_assigned t s l known lits levels own present clauses now settled
