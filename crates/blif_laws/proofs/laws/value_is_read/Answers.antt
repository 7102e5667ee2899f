use Rattle.blif_laws.proofs.Following.{read_value, value_read}
use Rattle.blif_laws.proofs.laws.value_is_read.Goals as goal

-- reading follows the lines of a text that has a value
pub returns-clause-read : goal.returns-clause-read
returns-clause-read c = read_value

-- the value that reading answers is that of the text
pub returns-clause-only : goal.returns-clause-only
returns-clause-only c = value_read
