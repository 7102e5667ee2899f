use Rattle.cnf_text_laws.proofs.CnfFaults.{fault_of_cnf_in, cnf_in_of_fault}
use Rattle.cnf_text_laws.proofs.laws.fault_of_a_text_is_computed.Goals as goal

pub returns : goal.returns
returns c text e = (fault_of_cnf_in text e, cnf_in_of_fault text e)
