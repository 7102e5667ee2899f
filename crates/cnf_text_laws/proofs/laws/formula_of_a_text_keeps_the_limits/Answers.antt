use Rattle.cnf_text_laws.proofs.OverVariables.{IsFormula-text}
use Rattle.cnf_text_laws.proofs.laws.formula_of_a_text_keeps_the_limits.Goals as goal

pub returns : goal.returns
returns c = IsFormula-text
