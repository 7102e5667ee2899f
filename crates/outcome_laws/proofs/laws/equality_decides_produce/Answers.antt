use Rattle.outcome_laws.proofs.Producing.{searched}
use Rattle.outcome_laws.proofs.laws.equality_decides_produce.Goals as goal

-- a bundle is of circuits with the same outputs, and a difference of others
pub returns : goal.returns
returns c = searched
