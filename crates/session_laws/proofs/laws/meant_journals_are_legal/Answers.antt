use Rattle.session_laws.proofs.Legality.{meant-legal}
use Rattle.session_laws.proofs.laws.meant_journals_are_legal.Goals as goal

-- each entry can follow those before it, by the condition of its reply
pub returns : goal.returns
returns c = meant-legal
