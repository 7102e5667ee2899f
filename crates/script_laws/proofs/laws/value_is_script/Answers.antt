use Rattle.script_laws.proofs.Drafts.{script_of_text, kind_of_text}
use Rattle.script_laws.proofs.laws.value_is_script.Goals as goal

pub returns-clause-script : goal.returns-clause-script
returns-clause-script c = script_of_text

pub returns-clause-kind : goal.returns-clause-kind
returns-clause-kind c = kind_of_text
