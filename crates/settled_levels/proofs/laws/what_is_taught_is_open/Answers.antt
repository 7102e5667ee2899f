use Rattle.settled_levels.proofs.LevelLemmas.{taught_is_open}
use Rattle.settled_levels.proofs.laws.what_is_taught_is_open.Goals as goal

pub returns : goal.returns
returns c = λ t d u b a n known taught less front. taught_is_open t known d u b taught a n less front
