use Rattle.clause_laws.proofs.Soundness.{resolves_with}
use Rattle.clause_laws.proofs.laws.derived_clause_resolves.Goals as goal

pub returns : goal.returns
returns c = resolves_with
