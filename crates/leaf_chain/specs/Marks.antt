-- A clause of false literals as marks of its variables.
use Rattle.std.specs.Prelude.{◌≡◌, ℕ, ◌+◌, ◌≤◌, Bool, true, false, not, List, [], ◌∷◌, length, map, take, get_or}
use Rattle.clause_defs.specs.Clauses.{Lits, Has, IsOrdered}
use Rattle.clause_defs.specs.Literals.{Literal}
use Rattle.clause_defs.specs.Resolution.{Resolves}
use Rattle.leaf_defs.specs.Evaluated.{Evaluated, false_literal}
use Rattle.log_defs.specs.Logs.{LogValue, IsIndexOf, clause_of_log}

-- a running clause as marks, the indices of its antecedents, and the literals in which it ends
pub record Chaining : Type 0 where
  pub marks : List Bool
  pub antecedents : List ℕ
  pub lits : Lits

-- the false literals of the marked variables; the lists begin with variable v
abbrev pub marked_from : ℕ → List Bool → List Bool → Lits
marked_from v [] values = []
marked_from v (m ∷ ms) [] = []
marked_from v (true ∷ ms) (b ∷ bs) = record { variable = v; positive = not b } ∷ marked_from (v + 1) ms bs
marked_from v (false ∷ ms) (b ∷ bs) = marked_from (v + 1) ms bs

-- the false literals of all marked variables
abbrev pub marked : List Bool → List Bool → Lits
marked marks values = marked_from 0 marks values

-- the variable is marked
abbrev pub IsMarked : List Bool → ℕ → Type 0
IsMarked marks v = get_or marks v false ≡ true

-- the clause has a literal of the variable
abbrev pub HasVariable : Lits → ℕ → Type 0
HasVariable c v = (l : Literal) × Has c l × (l.variable ≡ v)

-- each marked variable is in the list
abbrev pub AreMarksAmong : List Bool → List ℕ → Type 0
AreMarksAmong marks known = (v : ℕ) → IsMarked marks v → Has known v

-- The clauses with the indices resolve to the running clause, whose variables are among the first n in the
-- order. There are no more of them than variables that come later, and one.
pub record IsRunning (e : Evaluated) (log : LogValue) (marks : List Bool) (indices : List ℕ) (n : ℕ) : Type 0 where
  pub resolves : Resolves (map (clause_of_log log) indices) (marked marks e.values)
  pub known : AreMarksAmong marks (take n e.order)
  pub indices_are : (index : ℕ) → Has indices index → IsIndexOf log index
  pub few : length indices + n ≤ length e.order + 1
  pub all_variables : length marks ≡ length e.values

-- the literals are the false ones of the marked variables among the first n in the order, in their order
pub record IsCollected (e : Evaluated) (marks : List Bool) (n : ℕ) (c : Lits) : Type 0 where
  pub ordered : IsOrdered c
  pub from_marks : (l : Literal) → Has c l → IsMarked marks l.variable × (l ≡ false_literal e.values l.variable) × Has (take n e.order) l.variable
  pub all_marks : (v : ℕ) → IsMarked marks v → Has (take n e.order) v → Has c (false_literal e.values v)
  pub no_more : length c ≤ n
