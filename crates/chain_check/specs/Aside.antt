-- A clause that is computed aside, over the literals that are taken for those of its antecedents.
use Rattle.std.specs.Prelude.{◌≡◌, ℕ, List, length, None, Ok}
use Rattle.clause_defs.specs.Clauses.{Lits, SameSet, IsOrdered}
use Rattle.clause_defs.specs.Resolution.{Resolves}
use Rattle.clause_defs.specs.Verdicts.{ChainFault}

-- the chain through the clauses cs has no faulty step, and comes to the literals ls, each once
pub record ChainGives (index : ℕ) (cs : List Lits) (ls : Lits) : Type 0 where
  pub clause : Lits
  pub chain : Resolves cs clause
  pub ordered : IsOrdered clause
  pub same : SameSet ls clause
  pub long : length ls ≡ length clause
  pub ends : ChainFault index None cs (Ok tt)
