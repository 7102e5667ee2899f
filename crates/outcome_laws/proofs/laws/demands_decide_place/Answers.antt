use Rattle.outcome_laws.proofs.Placing.{answered_by}
use Rattle.outcome_laws.proofs.laws.demands_decide_place.Goals as goal

-- a design has one answer to what is wanting first
pub returns : goal.returns
returns c = answered_by
