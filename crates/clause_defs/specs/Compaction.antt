-- Traces whose derived clauses have the sign in place of their literals. (TraceCheck)
use Rattle.std.specs.Prelude.{ℕ, ◌+◌, ◌<◌, ◌||◌, ◌&&◌, Bool, true, false, List, [], ◌∷◌, length, None, if◌then◌else◌}
use Rattle.clause_defs.specs.Traces.{Entry, IsCompactAt, literals_in}

-- the list names some antecedent
abbrev pub has_antecedents : List ℕ → Bool
has_antecedents [] = false
has_antecedents (p ∷ ps) = true

-- the clause has antecedents
abbrev pub is_derived : Entry → Bool
is_derived e = has_antecedents e.antecedents

-- one of the clauses is derived
abbrev pub any_derived : List Entry → Bool
any_derived [] = false
any_derived (e ∷ es) = is_derived e || any_derived es

-- the sign in place of the clause's literals
abbrev pub with_sign : Entry → Entry
with_sign e = record { index = e.index; stated = None; antecedents = e.antecedents }

-- the sign in place of the literals of each derived clause but the last one
abbrev pub compacted : List Entry → List Entry
compacted [] = []
compacted (e ∷ es) = (if is_derived e && any_derived es then with_sign e else e) ∷ compacted es

-- the literals of each clause are stated
abbrev pub AllStated : List Entry → Type 0
AllStated t = (k : ℕ) → k < length t → IsCompactAt t k → ⊥

-- how many literals the clause states, if it is derived; an original counts nothing
abbrev pub derived_size : Entry → ℕ
derived_size e = if is_derived e then length (literals_in e.stated) else 0

-- how many literals the derived clauses state together
abbrev pub derived_literals : List Entry → ℕ
derived_literals [] = 0
derived_literals (e ∷ es) = derived_size e + derived_literals es
