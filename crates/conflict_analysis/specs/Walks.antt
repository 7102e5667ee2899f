-- How far the walk down the trail has come.
use Rattle.std.specs.Prelude.{ℕ, ◌≤◌, ◌↔◌, List, length, take}
use Rattle.clause_defs.specs.Literals.{Literal, negation}
use Rattle.clause_defs.specs.Clauses.{Lits, Has}
use Rattle.log_defs.specs.Logs.{LogValue}
use Rattle.conflict_chain.specs.Conflicts.{Chained, IsChainAt, IsSplit}
use Rattle.conflict_analysis.specs.Analyses.{HasNoRootFrom}

-- The walk to one literal of the present level is at place i: some are left, all of them before that place.
pub record IsToOne (log : LogValue) (level : ℕ) (trail : Lits) (levels : List ℕ) (i : ℕ) (r : Chained) : Type 0 where
  pub within : i ≤ length trail
  pub chain : IsChainAt log trail i r
  pub split : IsSplit levels level r
  pub some : 1 ≤ length r.present
  pub below : (x : Literal) → Has r.present x → Has (take i trail) (negation x)

-- The walk that takes spare literals away is at place i: none of level 0 is left from there on, and of the present
-- level are the same as before.
pub record IsToFew (log : LogValue) (level : ℕ) (trail : Lits) (levels : List ℕ) (present : Lits) (i : ℕ) (r : Chained) : Type 0 where
  pub within : i ≤ length trail
  pub chain : IsChainAt log trail i r
  pub split : IsSplit levels level r
  pub roots : HasNoRootFrom trail levels i r.lits
  pub same : (x : Literal) → Has r.present x ↔ Has present x
