use Rattle.journal_defs.proofs.LegalityLemmas.{legal-take, legal-before}
use Rattle.journal_defs.proofs.laws.prefixes_are_legal.Goals as goal

pub returns-clause-first : goal.returns-clause-first
returns-clause-first c = legal-take

pub returns-clause-before : goal.returns-clause-before
returns-clause-before c = legal-before
