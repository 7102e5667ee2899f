use Rattle.journal_defs.proofs.LegalityLemmas.{legal-nothing, legal-appended}
use Rattle.journal_defs.proofs.laws.appended_journals_are_legal.Goals as goal

pub returns-clause-empty : goal.returns-clause-empty
returns-clause-empty c = legal-nothing

pub returns-clause-appended : goal.returns-clause-appended
returns-clause-appended c = legal-appended
