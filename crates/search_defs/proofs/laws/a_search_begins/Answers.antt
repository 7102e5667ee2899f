use Rattle.search_defs.proofs.OpenLemmas.{solving_opened}
use Rattle.search_defs.proofs.laws.a_search_begins.Goals as goal

pub returns : goal.returns
returns c = λ log limit t indices nothing limited begun size own. solving_opened log limit t indices nothing limited begun size own
