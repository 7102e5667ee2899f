use Rattle.std.proofs.Common.{◌≡◌, ◌-◌, ◌≤◌, ℕ, List, length}
use Rattle.clause_defs.specs.Traces.{Entry}
use Rattle.sat_text_defs.specs.TraceReading.{among_lits}
use Rattle.sat_scan.specs.Scan.{IsAtWord}
use Rattle.sat_text.specs.ReadingSteps.{rest_from}
use Rattle.sat_text.proofs.trace_clause.read_literals.Given as goal

-- behind the literals so far, the rest of the text is read as from the first one
abbrev pub invariant-loop-first : goal.invariant-loop-first
invariant-loop-first l = record {
  not_before : l.first ≤ l.at;
  stands : IsAtWord l.at l.text;
  rest : (v i : ℕ) (t : List Entry) → rest_from v l.text l.first t (among_lits i l.fn.lits.items)
      ≡ rest_from v l.text l.at t (among_lits i l.lits.items);
}

-- how many bytes are left
abbrev pub decreases-loop-first : goal.decreases-loop-first
decreases-loop-first l = length l.text - l.at
