-- The literals of an assignment, and their values by code.
use Rattle.std.specs.Prelude.{◌≡◌, ℕ, ◌+◌, ◌*◌, ◌≤◌, ◌↔◌, Bool, true, false, List, length, get_or}
use Rattle.clause_defs.specs.Literals.{Literal, code}
use Rattle.clause_defs.specs.Clauses.{Lits, Has}
use Rattle.clause_defs.specs.declared.verdict.TheConstants.{MAX_VARIABLE}
use Rattle.trail_defs.specs.Assignments.{IsAssignmentOf}

-- the greatest variable, and the true literals in their order
pub record Values : Type 0 where
  pub variables : ℕ
  pub lits : Lits

-- the truths say of each code whether its literal is in the list
pub record AreTruths (variables : ℕ) (truths : List Bool) (lits : Lits) : Type 0 where
  pub small : variables ≤ MAX_VARIABLE
  pub size : length truths ≡ 2 * variables + 2
  pub held : (l : Literal) → (get_or truths (code l) false ≡ true) ↔ Has lits l
  pub known : IsAssignmentOf variables lits
