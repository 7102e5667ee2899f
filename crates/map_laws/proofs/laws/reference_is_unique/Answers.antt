use Rattle.map_laws.proofs.UniqueLemmas.{reference-unique}
use Rattle.map_laws.proofs.laws.reference_is_unique.Goals as goal

pub returns : goal.returns
returns c = reference-unique
