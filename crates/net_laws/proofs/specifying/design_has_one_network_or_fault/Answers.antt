use Rattle.net_laws.proofs.NetworkLemmas.{net_exists, net_is_unique}
use Rattle.net_laws.proofs.specifying.design_has_one_network_or_fault.Goals as goal

-- the faults are looked for in their order
pub returns-clause-exists : goal.returns-clause-exists
returns-clause-exists c = net_exists

-- each fault excludes the later ones
pub returns-clause-unique : goal.returns-clause-unique
returns-clause-unique c = net_is_unique
