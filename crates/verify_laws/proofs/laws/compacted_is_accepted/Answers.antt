use Rattle.verify_laws.proofs.Compacted.{accepted-compacted}
use Rattle.verify_laws.proofs.laws.compacted_is_accepted.Goals as goal

-- the compacted trace refutes what the trace refutes
pub returns : goal.returns
returns c = accepted-compacted
