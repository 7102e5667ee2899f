use Rattle.settled_levels.proofs.FrontLemmas.{front_at}
use Rattle.settled_levels.proofs.laws.levels_have_fronts.Goals as goal

pub returns : goal.returns
returns c = λ t known b. front_at t known b
