use Rattle.script_laws.proofs.Following.{read_fault, fault_read}
use Rattle.script_laws.proofs.laws.first_fault_is_read.Goals as goal

pub returns-clause-read : goal.returns-clause-read
returns-clause-read c = read_fault

pub returns-clause-only : goal.returns-clause-only
returns-clause-only c = fault_read
