use Rattle.blif_laws.proofs.Following.{read_fault, fault_read}
use Rattle.blif_laws.proofs.laws.first_fault_is_read.Goals as goal

-- reading stops at the first fault
pub returns-clause-read : goal.returns-clause-read
returns-clause-read c = read_fault

-- a fault that reading answers is the first
pub returns-clause-only : goal.returns-clause-only
returns-clause-only c = fault_read
