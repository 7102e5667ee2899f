use Rattle.journal_defs.proofs.LegalityLemmas.{outputs-agreed}
use Rattle.journal_defs.proofs.laws.legal_outputs_are_agreed.Goals as goal

pub returns : goal.returns
returns c = outputs-agreed
