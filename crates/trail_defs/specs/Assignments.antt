-- A list of literals as an assignment: its literals are true, and their negations are false. (MiniSat: the trail)
use Rattle.std.specs.Prelude.{◌≡◌, ◌≢◌, ℕ, ◌<◌, ◌≤◌, ◌⊎◌, List, [], ◌∷◌, length, get_or, take}
use Rattle.clause_defs.specs.Literals.{Literal, negation, IsLiteral}
use Rattle.clause_defs.specs.Clauses.{Lits, Has}

-- the literal is false
abbrev pub IsFalse : Lits → Literal → Type 0
IsFalse t l = Has t (negation l)

-- the literal's variable has no value
abbrev pub IsFree : Lits → Literal → Type 0
IsFree t l = (Has t l → ⊥) × (Has t (negation l) → ⊥)

-- no variable has two values, or one twice
abbrev pub AreApart : Lits → Type 0
AreApart [] = Unit {0}
AreApart (l ∷ ls) = ((m : Literal) → Has ls m → m.variable ≢ l.variable) × AreApart ls

-- literals of the variables 1 to `variables`, no variable twice
pub record IsAssignmentOf (variables : ℕ) (t : Lits) : Type 0 where
  pub literals : (l : Literal) → Has t l → IsLiteral l × (l.variable ≤ variables)
  pub apart : AreApart t

-- all literals of the clause are false
abbrev pub IsConflict : Lits → Lits → Type 0
IsConflict t c = (l : Literal) → Has c l → IsFalse t l

-- the clause has a true literal
abbrev pub IsSatisfied : Lits → Lits → Type 0
IsSatisfied t c = (l : Literal) × Has c l × Has t l

-- the clause has two literals without a value
abbrev pub HasTwoFree : Lits → Lits → Type 0
HasTwoFree t c = (l : Literal) × (m : Literal) × (l ≢ m) × (Has c l × IsFree t l) × (Has c m × IsFree t m)

-- the clause asks for no value: it has a true literal, or two literals without a value
abbrev pub IsSettled : Lits → Lits → Type 0
IsSettled t c = IsSatisfied t c ⊎ HasTwoFree t c

-- l is the clause's literal that has to be true: all its other literals are false
pub record Implies (t c : Lits) (l : Literal) : Type 0 where
  pub implied : Has c l
  pub others : (m : Literal) → Has c m → m ≢ l → IsFalse t m

-- l stands at place i of the list
pub record IsAt (ls : Lits) (i : ℕ) (l : Literal) : Type 0 where
  pub within : i < length ls
  pub read : l ≡ get_or ls i l
