use Rattle.settled_levels.proofs.LevelLemmas.{conflict_is_present}
use Rattle.settled_levels.proofs.laws.a_conflict_is_of_the_present_level.Goals as goal

pub returns : goal.returns
returns c = λ t d n b known all_false next front settled. conflict_is_present t known d n b all_false next front settled
