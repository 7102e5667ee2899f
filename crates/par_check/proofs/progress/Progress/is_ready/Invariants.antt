use Rattle.std.proofs.Common.{◌≡◌, ℕ, true, false, get_or, take}
use Rattle.clause_defs.specs.Clauses.{Has}
use Rattle.par_check.proofs.progress.Progress.is_ready.Given as goal

-- the antecedents so far are done
abbrev pub invariant-loop-p : goal.invariant-loop-p
invariant-loop-p l = (q : ℕ) → Has (take l.p-index l.p-items) q → get_or l.self.done.items q false ≡ true
