-- The printed texts of a CNF and of a trace. (DIMACS CNF, TraceCheck with the sign `*`)
use Rattle.std.specs.Prelude.{ℕ, List, [], ◌∷◌, ◌++◌, length, decimal, Option, Some, None}
use Rattle.std.specs.List.{flat_map}
use Rattle.clause_defs.specs.Literals.{Literal}
use Rattle.clause_defs.specs.Clauses.{Lits}
use Rattle.clause_defs.specs.Formulas.{Formula}
use Rattle.clause_defs.specs.Traces.{Entry, index_at}
use Rattle.sat_text_defs.specs.Words.{literal_word}

-- a number, and a blank behind it
abbrev pub number_text : ℕ → List ℕ
number_text n = decimal n ++ (32 ∷ [])

-- a literal, and a blank behind it
abbrev pub literal_text : Literal → List ℕ
literal_text l = literal_word l ++ (32 ∷ [])

-- ---- CNFs

-- a clause on a line of its own, with a 0 at its end
abbrev pub line_of : Lits → List ℕ
line_of c = flat_map literal_text c ++ (48 ∷ 10 ∷ [])

-- the words `p`, `cnf` and both numbers on a line, and a line for each clause
abbrev pub cnf_text : Formula → List ℕ
cnf_text f =
    (112 ∷ 32 ∷ 99 ∷ 110 ∷ 102 ∷ 32 ∷ [])
    ++ (number_text f.variables ++ (decimal (length f.clauses) ++ (10 ∷ flat_map line_of f.clauses)))

-- ---- traces

-- the literals and 0, or the sign, each with a blank behind it
abbrev pub stated_text : Option Lits → List ℕ
stated_text None = 42 ∷ 32 ∷ []
stated_text (Some ls) = flat_map literal_text ls ++ (48 ∷ 32 ∷ [])

-- a clause's line: its index, its literals and 0 or the sign, the indices of its antecedents in the trace, 0
abbrev pub entry_text : List Entry → ℕ → Option Lits → List ℕ → List ℕ
entry_text t index stated antecedents =
    number_text index
    ++ (stated_text stated ++ (flat_map (λ p. number_text (index_at t p)) antecedents ++ (48 ∷ 10 ∷ [])))

-- the line of a clause of the trace t
abbrev pub trace_line : List Entry → Entry → List ℕ
trace_line t e = entry_text t e.index e.stated e.antecedents

-- a line for each clause
abbrev pub trace_text : List Entry → List ℕ
trace_text t = flat_map (trace_line t) t
