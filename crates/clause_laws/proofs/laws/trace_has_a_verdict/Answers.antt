use Rattle.clause_laws.proofs.Verdict.{verdict_exists}
use Rattle.clause_laws.proofs.laws.trace_has_a_verdict.Goals as goal

pub returns : goal.returns
returns c = verdict_exists
