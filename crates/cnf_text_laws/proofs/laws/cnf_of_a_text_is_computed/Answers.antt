use Rattle.cnf_text_laws.proofs.CnfsRead.{text_of_cnf_in, cnf_in_of_text}
use Rattle.cnf_text_laws.proofs.laws.cnf_of_a_text_is_computed.Goals as goal

pub returns : goal.returns
returns c text f = (text_of_cnf_in text f, cnf_in_of_text text f)
