use Rattle.settled_levels.proofs.KeepLemmas.{settled_learned}
use Rattle.settled_levels.proofs.laws.learning_keeps_levels_settled.Goals as goal

pub returns : goal.returns
returns c = λ t s j d same clauses within below settled. settled_learned t s j d same clauses within below settled
