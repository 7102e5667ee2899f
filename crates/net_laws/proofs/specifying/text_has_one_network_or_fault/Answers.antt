use Rattle.net_laws.proofs.SpecificationLemmas.{specification_exists, specification_is_unique}
use Rattle.net_laws.proofs.specifying.text_has_one_network_or_fault.Goals as goal

-- a text has a design or a fault, and the design a network or a fault
pub returns-clause-exists : goal.returns-clause-exists
returns-clause-exists c = specification_exists

-- and it has one of them only
pub returns-clause-unique : goal.returns-clause-unique
returns-clause-unique c = specification_is_unique
