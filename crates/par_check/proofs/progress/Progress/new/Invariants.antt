use Rattle.std.proofs.Common.{◌≡◌, ℕ, false, length, get_or}
use Rattle.clause_defs.specs.Traces.{IsCompactAt}
use Rattle.par_check.proofs.progress.Progress.new.Given as goal

-- the flags of the first k clauses were made, and those with the sign aren't set
abbrev pub invariant-loop-k : goal.invariant-loop-k
invariant-loop-k l = record {
  made : length l.done.items ≡ l.k;
  signs : (p : ℕ) → IsCompactAt l.t p → get_or l.done.items p false ≡ false;
}
