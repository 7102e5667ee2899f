use Rattle.outcome_laws.proofs.Ending.{ends_as}
use Rattle.outcome_laws.proofs.laws.bytes_decide_the_run.Goals as goal

-- what decides the run is told as whatever else is due
pub returns : goal.returns
returns c = ends_as
