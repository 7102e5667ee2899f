-- A clause is a finite set of literals, and an assignment a list of bits, one per variable. (DIMACS CNF)
use Rattle.std.specs.Prelude.{◌≡◌, ℕ, ◌-◌, ◌==◌, nat_lt, ◌<◌, ◌≤◌, ◌↔◌, ◌⊎◌, List, [], ◌∷◌, length, slice_get, Some, if◌then◌else◌}
use Rattle.clause_defs.specs.Literals.{Literal, code, IsLiteral}

-- the literals of a clause, in any order and repeated or not
abbrev pub Lits : Type 0
Lits = List Literal

-- x is one of the list
abbrev pub Has : {X : Type 0} → List X → X → Type 0
Has [] x = ⊥
Has (y ∷ ys) x = (y ≡ x) ⊎ Has ys x

-- the two are the same clause: equality of clauses is that of sets
abbrev pub SameSet : Lits → Lits → Type 0
SameSet c d = (l : Literal) → Has c l ↔ Has d l

-- some clause of the list is the set c
abbrev pub HasClause : List Lits → Lits → Type 0
HasClause f c = (d : Lits) × Has f d × SameSet d c

-- distinct literals in their order: each one comes before all later ones
abbrev pub IsOrdered : Lits → Type 0
IsOrdered [] = Unit {0}
IsOrdered (l ∷ ls) = ((m : Literal) → Has ls m → code l < code m) × IsOrdered ls

-- the literals are within the limits, and in their order
pub record IsClause (c : Lits) : Type 0 where
  pub literals : (l : Literal) → Has c l → IsLiteral l
  pub ordered : IsOrdered c

-- the literals in their order with one more, which may be there already
abbrev pub with_literal : Literal → Lits → Lits
with_literal l [] = l ∷ []
with_literal l (m ∷ ms) =
    if nat_lt (code l) (code m) then (l ∷ m ∷ ms) else (if code l == code m then (m ∷ ms) else (m ∷ with_literal l ms))

-- the clause that has these literals: each once, in their order
abbrev pub clause_of : Lits → Lits
clause_of [] = []
clause_of (l ∷ ls) = with_literal l (clause_of ls)

-- no literal has a greater variable
abbrev pub WithinVariables : ℕ → Lits → Type 0
WithinVariables variables c = (l : Literal) → Has c l → l.variable ≤ variables

-- one bit per variable: the value of variable v is bit v - 1
pub record IsAssignment (variables : ℕ) (a : List ℕ) : Type 0 where
  pub all_variables : length a ≡ variables
  pub bits : (b : ℕ) → Has a b → b ≤ 1

-- the assignment gives the literal's variable the bit that the literal asks for
abbrev pub IsTrueUnder : List ℕ → Literal → Type 0
IsTrueUnder a l = slice_get a (l.variable - 1) ≡ Some (if l.positive then 1 else 0)

-- some literal of c is true under a
abbrev pub Satisfies : List ℕ → Lits → Type 0
Satisfies a c = (l : Literal) × Has c l × IsTrueUnder a l

-- no assignment over all variables of the list satisfies every clause of it
abbrev pub Unsat : ℕ → List Lits → Type 0
Unsat variables f = (a : List ℕ) → IsAssignment variables a → ((c : Lits) → Has f c → Satisfies a c) → ⊥
