-- Clauses that are copied from a trace.
use Rattle.std.specs.Prelude.{ℕ, Bool, List}
use Rattle.clause_defs.specs.Traces.{Entry, index_at, lits_at, antecedents_at}
use Rattle.sat_values.specs.TraceArrays.{stated_unless}

-- the clause at place k, with the sign or with the literals that are stated for it
abbrev pub copy_at : List Entry → ℕ → Bool → Entry
copy_at t k sign = record { index = index_at t k; stated = stated_unless sign (lits_at t k); antecedents = antecedents_at t k }
