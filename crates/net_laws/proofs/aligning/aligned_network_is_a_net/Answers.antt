use Rattle.net_laws.proofs.NetLemmas.{IsNet-aligned}
use Rattle.net_laws.proofs.aligning.aligned_network_is_a_net.Goals as goal

-- moving changes no order and no limit
pub returns : goal.returns
returns c = IsNet-aligned
