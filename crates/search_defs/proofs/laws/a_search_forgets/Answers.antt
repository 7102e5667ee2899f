use Rattle.search_defs.proofs.ForgetLemmas.{solving_forgot}
use Rattle.search_defs.proofs.laws.a_search_forgets.Goals as goal

pub returns : goal.returns
returns c = λ log s e j now solving known live stands clauses values. solving_forgot log s solving known e j now live stands clauses values
