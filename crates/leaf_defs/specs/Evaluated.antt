-- Variables with their values, in an order in which the values follow from each other: the first ones were
-- chosen, and each later one has a clause, its reason, whose other literals are false already.
-- (Unit propagation, where the order is known beforehand.)
use Rattle.std.specs.Prelude.{◌≡◌, ◌≢◌, ℕ, ◌-◌, ◌<◌, ◌≤◌, Bool, false, not, List, [], length, take, get_or}
use Rattle.clause_defs.specs.Literals.{Literal}
use Rattle.clause_defs.specs.Clauses.{Lits, Has}

-- which variables are true, by their numbers; the variables in the order in which they got their values, of
-- which the first so many were chosen; and for each of these the index of its reason
pub record Evaluated : Type 0 where
  pub values : List Bool
  pub order : List ℕ
  pub chosen : ℕ
  pub reasons : List ℕ

-- whether the variable is true
abbrev pub value_of : List Bool → ℕ → Bool
value_of values v = get_or values v false

-- the literal of the variable that is true
abbrev pub true_literal : List Bool → ℕ → Literal
true_literal values v = record { variable = v; positive = value_of values v }

-- the literal of the variable that is false
abbrev pub false_literal : List Bool → ℕ → Literal
false_literal values v = record { variable = v; positive = not (value_of values v) }

-- all literals of the clause are false, and their variables are in the list
abbrev pub IsFalseAmong : List Bool → List ℕ → Lits → Type 0
IsFalseAmong values known c =
    (l : Literal) → Has c l → (l ≡ false_literal values l.variable) × Has known l.variable

-- the clause has the true literal of v, and its other literals are false and of variables in the list
pub record IsReason (values : List Bool) (known : List ℕ) (v : ℕ) (c : Lits) : Type 0 where
  pub implied : Has c (true_literal values v)
  pub others : (l : Literal) → Has c l → l ≢ true_literal values v
      → (l ≡ false_literal values l.variable) × Has known l.variable

-- the clause of the list with this number, counted from 1
abbrev pub clause_numbered : List Lits → ℕ → Lits
clause_numbered f number = get_or f (number - 1) []

-- variable number i, counted from 0, in the order
abbrev pub variable_at : List ℕ → ℕ → ℕ
variable_at order i = get_or order i 0

-- the variables are distinct, the chosen ones stand in the order of their numbers, and each of the others has
-- a reason among the clauses of the list
pub record IsEvaluated (f : List Lits) (e : Evaluated) : Type 0 where
  pub within : (v : ℕ) → Has e.order v → (1 ≤ v) × (v < length e.values)
  pub distinct : (i j : ℕ) → i < j → j < length e.order → variable_at e.order i ≢ variable_at e.order j
  pub chosen_first : e.chosen ≤ length e.order
  pub chosen_ordered : (i j : ℕ) → i < j → j < e.chosen → variable_at e.order i < variable_at e.order j
  pub as_many : length e.reasons ≡ length e.order
  pub numbers : (i : ℕ) → e.chosen ≤ i → i < length e.order → (1 ≤ get_or e.reasons i 0) × (get_or e.reasons i 0 ≤ length f)
  pub reasons : (i : ℕ) → e.chosen ≤ i → i < length e.order
      → IsReason e.values (take i e.order) (variable_at e.order i) (clause_numbered f (get_or e.reasons i 0))
