use Rattle.settled_levels.proofs.KeepLemmas.{settled_fewer}
use Rattle.settled_levels.proofs.laws.forgetting_keeps_levels_settled.Goals as goal

pub returns : goal.returns
returns c = λ t s same was settled. settled_fewer t s same was settled
