use Rattle.text_defs.proofs.NumberLemmas.{number_in-spelled, spelled_from-number_in}
use Rattle.text_defs.proofs.laws.number_in_is_spelled.Goals as goal

pub returns : goal.returns
returns c text n small = (spelled_from-number_in text n small, number_in-spelled text n small)
