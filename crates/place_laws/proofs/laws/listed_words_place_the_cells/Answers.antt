use Rattle.place_laws.proofs.PlacingLemmas.{listed_place}
use Rattle.place_laws.proofs.laws.listed_words_place_the_cells.Goals as goal

pub returns : goal.returns
returns c = listed_place
