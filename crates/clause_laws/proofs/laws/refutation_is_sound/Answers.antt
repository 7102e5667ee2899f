use Rattle.clause_laws.proofs.Soundness.{unsat}
use Rattle.clause_laws.proofs.laws.refutation_is_sound.Goals as goal

pub returns : goal.returns
returns c variables f t w earlier refutes = unsat variables f t w earlier refutes.0 refutes.1
