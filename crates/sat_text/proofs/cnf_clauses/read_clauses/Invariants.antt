use Rattle.std.proofs.Common.{length, ◌-◌, ◌≡◌, []}
use Rattle.sat_text_defs.specs.CnfReading.{clauses_from}
use Rattle.sat_scan.specs.Scan.{cnf_tokens_from, IsAtCnfWord}
use Rattle.sat_text.proofs.cnf_clauses.read_clauses.Given as goal

-- behind the clauses so far, the rest of the text is read as from the first one
abbrev pub invariant-loop-at : goal.invariant-loop-at
invariant-loop-at l = record {
  stands : IsAtCnfWord l.at l.text;
  exact : clauses_from l.variables (length l.text) (cnf_tokens_from l.at l.text) l.clauses l.lits.items ≡ clauses_from l.variables (length l.text) (cnf_tokens_from l.from l.text) l.fn.clauses [];
}

-- how many bytes are left
abbrev pub decreases-loop-at : goal.decreases-loop-at
decreases-loop-at l = length l.text - l.at
