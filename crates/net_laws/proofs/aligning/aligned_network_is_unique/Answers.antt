use Rattle.net_laws.proofs.AlignLemmas.{IsAligned-unique}
use Rattle.net_laws.proofs.aligning.aligned_network_is_unique.Goals as goal

-- each node and each output is moved to one place
pub returns : goal.returns
returns c = IsAligned-unique
