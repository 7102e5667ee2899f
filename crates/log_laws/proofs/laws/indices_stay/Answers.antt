use Rattle.log_laws.proofs.LogLemmas.{index_stays, clause_stays}
use Rattle.log_laws.proofs.laws.indices_stay.Goals as goal

pub returns : goal.returns
returns c = record { index = index_stays; clause = clause_stays }
