use Rattle.settled_levels.proofs.KeepLemmas.{settled_back}
use Rattle.settled_levels.proofs.laws.going_back_keeps_levels_settled.Goals as goal

pub returns : goal.returns
returns c = λ t s b up levels present clauses low settled. settled_back t s b up levels present clauses low settled
