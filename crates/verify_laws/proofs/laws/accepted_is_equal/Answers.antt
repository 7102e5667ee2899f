use Rattle.verify_laws.proofs.Parts.{equal_where_accepted}
use Rattle.verify_laws.proofs.laws.accepted_is_equal.Goals as goal

-- a trace that refutes the miter leaves no input where the outputs differ
pub returns : goal.returns
returns c = equal_where_accepted
