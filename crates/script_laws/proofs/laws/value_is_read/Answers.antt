use Rattle.script_laws.proofs.Following.{read_value, value_read}
use Rattle.script_laws.proofs.laws.value_is_read.Goals as goal

pub returns-clause-read : goal.returns-clause-read
returns-clause-read c = read_value

pub returns-clause-only : goal.returns-clause-only
returns-clause-only c = value_read
