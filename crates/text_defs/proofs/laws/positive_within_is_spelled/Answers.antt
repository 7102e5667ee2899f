use Rattle.text_defs.proofs.NumberLemmas.{positive_within-spelled, spelled-positive_within}
use Rattle.text_defs.proofs.laws.positive_within_is_spelled.Goals as goal

pub returns : goal.returns
returns c max n text small = (positive_within-spelled max n text small, λ h. spelled-positive_within max n text small h.0 h.1 h.2)
