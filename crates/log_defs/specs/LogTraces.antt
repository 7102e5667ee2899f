-- The trace that a log is: the clauses of the formula under their numbers, and then the derived ones.
use Rattle.std.specs.Prelude.{◌≡◌, ℕ, ◌+◌, ◌-◌, ◌<◌, List, [], ◌∷◌, ◌++◌, length, map, Some}
use Rattle.clause_defs.specs.Clauses.{Lits}
use Rattle.clause_defs.specs.Traces.{Entry}
use Rattle.log_defs.specs.Logs.{Derived, clause_with}

-- the place in the trace of the clause with this index
abbrev pub place_with : ℕ → ℕ
place_with index = index - 1

-- a clause of the formula, which has no antecedents in a trace
abbrev pub original_entry : ℕ → Lits → Entry
original_entry index c = record { index = index; stated = Some c; antecedents = [] }

-- a derived clause, whose antecedents are places in a trace
abbrev pub derived_entry : ℕ → Derived → Entry
derived_entry index d = record { index = index; stated = Some d.lits; antecedents = map place_with d.antecedents }

-- the clauses of the formula, with indices from this one on
abbrev pub original_entries : ℕ → List Lits → List Entry
original_entries index [] = []
original_entries index (c ∷ cs) = original_entry index c ∷ original_entries (index + 1) cs

-- derived clauses, with indices from this one on
abbrev pub derived_entries : ℕ → List Derived → List Entry
derived_entries index [] = []
derived_entries index (d ∷ ds) = derived_entry index d ∷ derived_entries (index + 1) ds

-- the trace of a log
abbrev pub trace_of : List Lits → List Derived → List Entry
trace_of f ds = original_entries 1 f ++ derived_entries (length f + 1) ds

-- there is a clause, and the last one is empty
abbrev pub EndsWithEmpty : List Lits → List Derived → Type 0
EndsWithEmpty f ds = (0 < length f + length ds) × (clause_with f ds (length f + length ds) ≡ [])
