use Rattle.clause_laws.proofs.Resolvents.{resolves_same}
use Rattle.log_laws.proofs.ChainGrowth.{resolves_one, resolves_more}
use Rattle.log_laws.proofs.laws.chain_grows.Goals as goal

pub returns : goal.returns
returns c = record { one = resolves_one; more = resolves_more; same = resolves_same }
