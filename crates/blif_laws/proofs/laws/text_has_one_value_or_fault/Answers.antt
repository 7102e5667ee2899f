use Rattle.blif_laws.proofs.Reading.{reading_exists, reading_is_unique, no_text_wants_memory}
use Rattle.blif_laws.proofs.laws.text_has_one_value_or_fault.Goals as goal

-- what reading answers is the value or the fault
pub returns-clause-exists : goal.returns-clause-exists
returns-clause-exists c = reading_exists

-- any value or fault is what reading answers
pub returns-clause-unique : goal.returns-clause-unique
returns-clause-unique c = reading_is_unique

-- reading asks for no memory
pub returns-clause-memory : goal.returns-clause-memory
returns-clause-memory c = no_text_wants_memory
