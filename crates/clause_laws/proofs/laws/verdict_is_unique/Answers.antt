use Rattle.clause_laws.proofs.Uniqueness.{verdict_unique}
use Rattle.clause_laws.proofs.laws.verdict_is_unique.Goals as goal

pub returns : goal.returns
returns c = verdict_unique
