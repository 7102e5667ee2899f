-- The chain of a conflict, over the list of the literals that are true, in the order in which they became so.
-- A clause whose literals are all false is resolved with the clauses that made these literals false.
-- (Conflict analysis of a search by clause learning.)
use Rattle.std.specs.Prelude.{◌≡◌, ◌≢◌, ℕ, ◌+◌, ◌≤◌, ◌↔◌, ◌⊎◌, List, length, map, get_or}
use Rattle.clause_defs.specs.Literals.{Literal, negation}
use Rattle.clause_defs.specs.Clauses.{Lits, Has}
use Rattle.clause_defs.specs.Resolution.{Clashes, Resolves}
use Rattle.log_defs.specs.Logs.{LogValue, IsIndexOf, clause_of_log}
use Rattle.trail_defs.specs.Assignments.{IsConflict}

-- a running clause over the variables up to a greatest one: its literals, those of them that are of the present
-- level, and the indices of the clauses that it was resolved from
pub record Chained : Type 0 where
  pub variables : ℕ
  pub lits : Lits
  pub present : Lits
  pub antecedents : List ℕ

-- the clauses with the indices resolve to the running clause
pub record IsChain (log : LogValue) (r : Chained) : Type 0 where
  pub resolves : Resolves (map (clause_of_log log) r.antecedents) r.lits
  pub indices_are : (index : ℕ) → Has r.antecedents index → IsIndexOf log index

-- the present literals are those of the running clause whose variables have this level, by a list of levels
pub record IsSplit (levels : List ℕ) (level : ℕ) (r : Chained) : Type 0 where
  pub running : (l : Literal) → Has r.present l → Has r.lits l
  pub by_level : (l : Literal) → Has r.lits l → (Has r.present l ↔ (get_or levels l.variable 0 ≡ level))

-- exactly one literal of the running clause, the pivot, stands in the other one negated
pub record ClashesOnce (r c : Lits) (pivot : Literal) : Type 0 where
  pub clashes : Clashes r c pivot
  pub only : (l : Literal) → Clashes r c l → l ≡ pivot

-- s has the literals of both clauses but l of c and its negation of r
abbrev pub AreOthersOf : Lits → Lits → Literal → Lits → Type 0
AreOthersOf r c l s = (x : Literal) → Has s x ↔ ((Has r x × (x ≢ negation l)) ⊎ (Has c x × (x ≢ l)))

-- The walk has come down to place i of the list: the running clause is false, and there are no more antecedents
-- than places that were passed, and one.
pub record IsChainAt (log : LogValue) (trail : Lits) (i : ℕ) (r : Chained) : Type 0 where
  pub chain : IsChain log r
  pub all_false : IsConflict trail r.lits
  pub few : length r.antecedents + i ≤ length trail + 1
