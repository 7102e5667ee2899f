use Rattle.std.proofs.Common.{subst}
use Rattle.log_defs.specs.Logs.{IsLog}
use Rattle.proof_log.proofs.KeptLemmas.{is_log}
use Rattle.proof_log.proofs.log.Log.into_trace.Goals as goal

pub returns-clause-log : goal.returns-clause-log
returns-clause-log c = subst IsLog c.self.view_is (is_log _ _ _ _ _ c.self.invariant)
