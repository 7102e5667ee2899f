use Rattle.net_laws.proofs.PairingLemmas.{Pairs-paired}
use Rattle.net_laws.proofs.pairing.pairing_pairs_each_place.Goals as goal

-- each place has a partner, and no two have the same
pub returns : goal.returns
returns c = Pairs-paired
