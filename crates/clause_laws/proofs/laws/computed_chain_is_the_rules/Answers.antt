use Rattle.clause_laws.proofs.Resolvents.{chain_of-resolves, resolves-chain_of}
use Rattle.clause_laws.proofs.laws.computed_chain_is_the_rules.Goals as goal

pub returns : goal.returns
returns c cs s = (chain_of-resolves cs s, λ h. resolves-chain_of cs s h.0 h.1)
