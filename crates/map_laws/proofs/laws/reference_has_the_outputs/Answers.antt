use Rattle.map_laws.proofs.SettledLemmas.{reference-outputs}
use Rattle.map_laws.proofs.laws.reference_has_the_outputs.Goals as goal

pub returns : goal.returns
returns c = reference-outputs
