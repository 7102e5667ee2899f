-- Chains that grow at their end.
use Rattle.std.proofs.Common.{List, [], ◌∷◌, ◌++◌}
use Rattle.clause_defs.specs.Clauses.{Lits}
use Rattle.clause_defs.specs.Resolution.{Step, Chain, Resolves}
use Rattle.clause_laws.proofs.ClauseLemmas.{same_refl, same_sym}
use Rattle.clause_laws.proofs.Resolvents.{step_between}

-- one more step goes on from any list with the same literals
chain_more : (r : Lits) (cs : List Lits) (m c s : Lits) → Chain r cs m → Step m c s → Chain r (cs ++ c ∷ []) s
chain_more r [] m c s same step = (s, step_between m r c s s (same_sym r m same) (same_refl s) step, same_refl s)
chain_more r (d ∷ ds) m c s h step = (h.0, h.1, chain_more h.0 ds m c s h.2 step)

-- a list of one clause gives this clause
pub resolves_one : (c : Lits) → Resolves (c ∷ []) c
resolves_one c = same_refl c

-- what follows from some clauses, resolved with one more
pub resolves_more : (cs : List Lits) (m c s : Lits) → Resolves cs m → Step m c s → Resolves (cs ++ c ∷ []) s
resolves_more [] m c s h step = absurd h
resolves_more (r ∷ cs) m c s h step = chain_more r cs m c s h step
