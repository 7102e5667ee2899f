use Rattle.journal_defs.proofs.LegalityLemmas.{running-equal}
use Rattle.journal_defs.proofs.laws.running_configurations_are_equal.Goals as goal

pub returns : goal.returns
returns c = running-equal
