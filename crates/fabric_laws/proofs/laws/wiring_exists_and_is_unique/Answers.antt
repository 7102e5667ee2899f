use Rattle.fabric_laws.proofs.WiringLemmas.{wiring, wiring_is_wired, wiring_is_unique}
use Rattle.fabric_laws.proofs.laws.wiring_exists_and_is_unique.Goals as goal

-- the columns are wired one after the other
pub returns-clause-exists : goal.returns-clause-exists
returns-clause-exists c k x own = (wiring k x, wiring_is_wired k x own)

-- each column determines the next
pub returns-clause-unique : goal.returns-clause-unique
returns-clause-unique c = wiring_is_unique
