use Rattle.search_defs.proofs.BackLemmas.{solving_put_back}
use Rattle.search_defs.proofs.laws.a_clause_comes_back.Goals as goal

pub returns : goal.returns
returns c = λ log s e u b index j now solving known taught stands is learned. solving_put_back log s solving known e u b taught index stands is j now learned
