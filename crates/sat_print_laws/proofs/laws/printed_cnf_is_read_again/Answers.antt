use Rattle.cnf_text_laws.proofs.OverVariables.{IsFormula-text}
use Rattle.sat_print_laws.proofs.PrintedCnfs.{printed-text}
use Rattle.sat_print_laws.proofs.laws.printed_cnf_is_read_again.Goals as goal

pub returns : goal.returns
returns c = record { printed = printed-text; again = λ text f h. printed-text f (IsFormula-text text f h) }
