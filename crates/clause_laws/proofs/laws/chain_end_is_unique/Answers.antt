use Rattle.clause_laws.proofs.Uniqueness.{chain_end_unique}
use Rattle.clause_laws.proofs.laws.chain_end_is_unique.Goals as goal

pub returns : goal.returns
returns c = chain_end_unique
