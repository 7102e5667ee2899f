use Rattle.text_defs.proofs.NumberLemmas.{number_within-spelled, spelled-number_within}
use Rattle.text_defs.proofs.laws.number_within_is_spelled.Goals as goal

pub returns : goal.returns
returns c max n text small = (number_within-spelled max n text small, λ h. spelled-number_within max n text small h.0 h.1)
