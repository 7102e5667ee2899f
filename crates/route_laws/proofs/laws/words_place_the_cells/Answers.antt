use Rattle.route_laws.proofs.PassingLemmas.{words_place}
use Rattle.route_laws.proofs.laws.words_place_the_cells.Goals as goal

pub returns : goal.returns
returns c = words_place
