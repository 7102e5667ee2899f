use Rattle.net_laws.proofs.AlignLemmas.{HasOutputsOf-aligned}
use Rattle.net_laws.proofs.aligning.aligned_network_has_the_outputs.Goals as goal

-- the moved signals keep their bits
pub returns : goal.returns
returns c = HasOutputsOf-aligned
