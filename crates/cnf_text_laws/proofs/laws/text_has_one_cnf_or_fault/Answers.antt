use Rattle.cnf_text_laws.proofs.OneReading.{text_or_fault, one_cnf as only_cnf, one_fault as only_fault, not_both as never_both}
use Rattle.cnf_text_laws.proofs.laws.text_has_one_cnf_or_fault.Goals as goal

pub returns : goal.returns
returns c = record { some = text_or_fault; one_cnf = only_cnf; one_fault = only_fault; not_both = never_both }
