-- Traces as lists side by side.
use Rattle.std.specs.Prelude.{◌≡◌, ℕ, ◌≤◌, Bool, true, false, List, [], ◌∷◌, length, map, get_or, drop, max, Option, Some, None}
use Rattle.clause_defs.specs.declared.verdict.TheConstants.{MAX_CLAUSES}
use Rattle.clause_defs.specs.Clauses.{Lits}
use Rattle.clause_defs.specs.Traces.{Entry, IsTrace, literals_in}

-- the literals, unless the sign stands in their place
abbrev pub stated_unless : Bool → Lits → Option Lits
stated_unless true c = None
stated_unless false c = Some c

-- The clauses with these indices, literals and antecedents. The last list says where the sign stands; past its
-- end it doesn't.
abbrev pub entries_of : List ℕ → List Lits → List (List ℕ) → List Bool → List Entry
entries_of [] ls as_ signs = []
entries_of (i ∷ is) [] as_ signs = []
entries_of (i ∷ is) (l ∷ ls) [] signs = []
entries_of (i ∷ is) (l ∷ ls) (a ∷ as_) signs =
    record { index = i; stated = stated_unless (get_or signs 0 false) l; antecedents = a } ∷ entries_of is ls as_ (drop 1 signs)

-- the literals that the clause states: none where the sign stands
abbrev pub stated_lits : Entry → Lits
stated_lits e = literals_in e.stated

-- the greatest variable of the literals, and 0 where there are none
abbrev pub greatest_of : Lits → ℕ
greatest_of [] = 0
greatest_of (l ∷ ls) = max l.variable (greatest_of ls)

-- the greatest variable of the literals that a trace states, and 0 where there are none
abbrev pub greatest_variable : List Entry → ℕ
greatest_variable [] = 0
greatest_variable (e ∷ es) = max (greatest_of (stated_lits e)) (greatest_variable es)

-- the lists are those of a trace, and this is its greatest variable
pub record AreTrace (indices : List ℕ) (lits : List Lits) (antecedents : List (List ℕ)) (signs : List Bool) (greatest : ℕ) : Type 0 where
  pub as_many_lits : length lits ≡ length indices
  pub as_many_antecedents : length antecedents ≡ length indices
  pub few_signs : length signs ≤ length indices
  pub trace : IsTrace (entries_of indices lits antecedents signs)
  pub lits_are : lits ≡ map stated_lits (entries_of indices lits antecedents signs)
  pub greatest_is : greatest ≡ greatest_variable (entries_of indices lits antecedents signs)
  pub few : length indices ≤ MAX_CLAUSES
