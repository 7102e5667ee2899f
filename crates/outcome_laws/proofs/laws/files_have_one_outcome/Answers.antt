use Rattle.outcome_laws.proofs.Deciding.{told_alike, saved_alike}
use Rattle.outcome_laws.proofs.laws.files_have_one_outcome.Goals as goal

-- each command's tests are made in their order, and each of them has one answer
pub returns : goal.returns
returns c = record { told = told_alike; saved = saved_alike }
