use Rattle.session_laws.proofs.Legality.{outputs-agree}
use Rattle.session_laws.proofs.laws.outputs_are_agreed.Goals as goal

-- the journal up to the reply is legal, so what runs there has the agreed outputs
pub returns : goal.returns
returns c = outputs-agree
