use Rattle.search_defs.proofs.PointLemmas.{point_reached}
use Rattle.search_defs.proofs.laws.a_search_finds.Goals as goal

pub returns : goal.returns
returns c = λ log s solving total satisfied. point_reached log s solving total satisfied
