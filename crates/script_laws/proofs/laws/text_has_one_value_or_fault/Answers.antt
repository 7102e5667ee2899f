use Rattle.script_laws.proofs.Reading.{reading_exists, reading_is_unique}
use Rattle.script_laws.proofs.laws.text_has_one_value_or_fault.Goals as goal

pub returns-clause-exists : goal.returns-clause-exists
returns-clause-exists c = reading_exists

pub returns-clause-unique : goal.returns-clause-unique
returns-clause-unique c = reading_is_unique
