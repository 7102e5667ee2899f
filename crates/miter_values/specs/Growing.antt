-- More variables get values, and those that have one keep it.
use Rattle.std.specs.Prelude.{◌≡◌, ℕ, ◌↔◌, ◌⊎◌, not, List, ◌++◌, length}
use Rattle.clause_defs.specs.Literals.{Literal}
use Rattle.clause_defs.specs.Clauses.{Lits, Has}
use Rattle.leaf_defs.specs.Evaluated.{Evaluated, value_of, IsEvaluated}

-- the variable of the literal has a value, which makes it true
pub record IsTrueIn (e : Evaluated) (l : Literal) : Type 0 where
  pub known : Has e.order l.variable
  pub value : value_of e.values l.variable ≡ l.positive

-- the variable of the literal has a value, which makes it false
pub record IsFalseIn (e : Evaluated) (l : Literal) : Type 0 where
  pub known : Has e.order l.variable
  pub value : value_of e.values l.variable ≡ not l.positive

-- the clause has the literal l, and its other literals are false
pub record IsForced (e : Evaluated) (l : Literal) (c : Lits) : Type 0 where
  pub implied : Has c l
  pub others : (m : Literal) → Has c m → (m ≡ l) ⊎ IsFalseIn e m

-- just the variables that are told have got values besides those that had one, by clauses of the list
pub record Grows (f : List Lits) (before after : Evaluated) (news : ℕ → Type 0) : Type 0 where
  pub evaluated : IsEvaluated f after
  pub places : length after.values ≡ length before.values
  pub chosen : after.chosen ≡ before.chosen
  pub more : List ℕ
  pub order : after.order ≡ before.order ++ more
  pub values : (u : ℕ) → Has before.order u → value_of after.values u ≡ value_of before.values u
  pub known : (u : ℕ) → Has after.order u ↔ (Has before.order u ⊎ news u)
