use Rattle.settled_levels.proofs.KeepLemmas.{settled_grown}
use Rattle.settled_levels.proofs.laws.propagation_keeps_levels_settled.Goals as goal

pub returns : goal.returns
returns c = λ t s grown present clauses settled. settled_grown t s grown present clauses settled
