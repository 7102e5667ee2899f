use Rattle.net_laws.proofs.PairingLemmas.{interface_exists, interface_is_unique}
use Rattle.net_laws.proofs.pairing.interface_exists_and_is_unique.Goals as goal

-- each name is looked for in turn
pub returns-clause-exists : goal.returns-clause-exists
returns-clause-exists c = interface_exists

-- distinct names stand at one place each
pub returns-clause-unique : goal.returns-clause-unique
returns-clause-unique c = interface_is_unique
