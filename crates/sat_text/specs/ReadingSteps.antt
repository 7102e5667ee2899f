-- What each step of a trace's reader says of the rest of the text.
use Rattle.std.specs.Prelude.{◌≡◌, ℕ, ◌⊎◌, List, length, Result, Ok, Err}
use Rattle.clause_defs.specs.Traces.{Entry}
use Rattle.text_defs.specs.Steps.{◌>>=◌}
use Rattle.sat_text_defs.specs.declared.errors.TraceError.{TraceError}
use Rattle.sat_text_defs.specs.declared.errors.TraceError.TheVariants.{NoMemory}
use Rattle.sat_text_defs.specs.TraceText.{Spelled}
use Rattle.sat_text_defs.specs.TraceReading.{Part, start, judged, trace_from}
use Rattle.sat_scan.specs.Scan.{tokens_from}
use Rattle.sat_values.specs.TraceArrays.{stated_unless}
use Rattle.sat_text.specs.declared.trace_clause.SpelledClause.{SpelledClause}

-- a clause that was read
abbrev pub spelled_of : SpelledClause → Spelled
spelled_of c = record { index = c.index; stated = stated_unless c.sign c.lits.items; antecedents = c.antecedents.items }

-- the trace of a text of version v from place `at` on, where the clauses t and this part of the next were read
abbrev pub rest_from : ℕ → List ℕ → ℕ → List Entry → Part → Result (List Entry) TraceError
rest_from v text at t part = trace_from v (length text) (tokens_from at text) t part

-- A step leads from place `at` and this part of a clause to the place that it answers and the part `later`, or
-- its fault is that of the text.
abbrev pub LeadsTo : ℕ → List ℕ → ℕ → Part → Part → Result ℕ TraceError → Type 0
LeadsTo v text at part later (Ok next) = (t : List Entry) → rest_from v text at t part ≡ rest_from v text next t later
LeadsTo v text at part later (Err e) = (e ≡ NoMemory) ⊎ ((t : List Entry) → rest_from v text at t part ≡ Err e)

-- The clause s begins at place `at` and ends before the one that is answered, or the fault is that of the text.
abbrev pub ReadsClause : ℕ → List ℕ → ℕ → Spelled → Result ℕ TraceError → Type 0
ReadsClause v text at s (Ok next) =
    (t : List Entry) → rest_from v text at t start ≡ (judged t s >>= λ u. rest_from v text next u start)
ReadsClause v text at s (Err e) = (e ≡ NoMemory) ⊎ ((t : List Entry) → rest_from v text at t start ≡ Err e)

-- Behind the clauses `before` a step leads from place `at` to the one that it answers, with the clauses `after`,
-- or its fault is that of the text.
abbrev pub ReadsOn : ℕ → List ℕ → ℕ → List Entry → List Entry → Result ℕ TraceError → Type 0
ReadsOn v text at before after (Ok next) = rest_from v text at before start ≡ rest_from v text next after start
ReadsOn v text at before after (Err e) = (e ≡ NoMemory) ⊎ (rest_from v text at before start ≡ Err e)
