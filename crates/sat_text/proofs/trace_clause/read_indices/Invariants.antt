use Rattle.std.proofs.Common.{◌≡◌, ◌-◌, ◌≤◌, ℕ, length, List, Option}
use Rattle.clause_defs.specs.Clauses.{Lits}
use Rattle.clause_defs.specs.Traces.{Entry}
use Rattle.sat_text_defs.specs.TraceReading.{among_antecedents}
use Rattle.sat_scan.specs.Scan.{IsAtWord}
use Rattle.sat_text.specs.ReadingSteps.{rest_from}
use Rattle.sat_text.proofs.trace_clause.read_indices.Given as goal

-- behind the indices so far, the rest of the text is read as from the first one
abbrev pub invariant-loop-from : goal.invariant-loop-from
invariant-loop-from l = record {
  not_before : l.from ≤ l.at;
  longer : length l.fn.indices.items ≤ length l.indices.items;
  stands : IsAtWord l.at l.text;
  rest : (v i : ℕ) (stated : Option Lits) (t : List Entry) → rest_from v l.text l.from t (among_antecedents i stated l.fn.indices.items)
      ≡ rest_from v l.text l.at t (among_antecedents i stated l.indices.items);
}

-- how many bytes are left
abbrev pub decreases-loop-from : goal.decreases-loop-from
decreases-loop-from l = length l.text - l.at
