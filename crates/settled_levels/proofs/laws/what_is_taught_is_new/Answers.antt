use Rattle.settled_levels.proofs.LevelLemmas.{taught_is_new}
use Rattle.settled_levels.proofs.laws.what_is_taught_is_new.Goals as goal

pub returns : goal.returns
returns c = λ t d u b n k known settled taught front live. taught_is_new t known d u b taught settled n front k live
