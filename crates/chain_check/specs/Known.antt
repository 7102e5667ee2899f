-- What a checker knows of the clauses of a trace.
use Rattle.std.specs.Prelude.{◌≡◌, ℕ, zero, suc, ◌+◌, ◌<◌, ◌≤◌, List, [], ◌∷◌, length, get_or, map, Option, Some, None}
use Rattle.clause_defs.specs.Literals.{Literal}
use Rattle.clause_defs.specs.Clauses.{Lits, Has, SameSet}
use Rattle.clause_defs.specs.Traces.{Entry, stated_at, lits_at, antecedents_at}
use Rattle.clause_defs.specs.TraceClauses.{LitsOf}

-- the stated literals, or the computed ones where none are stated
abbrev pub stated_else : Lits → Lits → Lits
stated_else [] computed = computed
stated_else (l ∷ ls) computed = l ∷ ls

-- the literals that a checker takes for those of clause p: the stated ones, or else the computed ones
abbrev pub literals_at : List Entry → List Lits → ℕ → Lits
literals_at t computed p = stated_else (lits_at t p) (get_or computed p [])

-- the literals that are taken for those of the antecedents of clause k
abbrev pub antecedents_known : List Entry → List Lits → ℕ → List Lits
antecedents_known t computed k = map (literals_at t computed) (antecedents_at t k)

-- the clause is there, and these are its literals, each once
abbrev pub AreLiteralsOf : Option Lits → Lits → Type 0
AreLiteralsOf None ls = ⊥
AreLiteralsOf (Some c) ls = SameSet ls c × (length ls ≡ length c)

-- the variables of the literals are from 1 to this one
abbrev pub AreOver : ℕ → Lits → Type 0
AreOver variables c = (l : Literal) → Has c l → (1 ≤ l.variable) × (l.variable ≤ variables)

-- the literals of all clauses before place k are known
pub record IsKnownBefore (t : List Entry) (variables : ℕ) (computed : List Lits) (k : ℕ) : Type 0 where
  pub literals : (p : ℕ) → p < k → AreLiteralsOf (LitsOf t p) (literals_at t computed p)
  pub over : (p : ℕ) → AreOver variables (literals_at t computed p)

-- 1 for a clause with the sign, 0 for one whose literals are stated
abbrev pub sign_count : Option Lits → ℕ
sign_count None = 1
sign_count (Some c) = 0

-- how many clauses before place n have the sign
abbrev pub signs_before : List Entry → ℕ → ℕ
signs_before t zero = 0
signs_before t (suc k) = signs_before t k + sign_count (stated_at t k)
