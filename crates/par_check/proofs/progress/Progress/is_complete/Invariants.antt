use Rattle.std.proofs.Common.{◌≡◌, ℕ, ◌<◌, true, false, get_or}
use Rattle.par_check.proofs.progress.Progress.is_complete.Given as goal

-- the flags so far are set
abbrev pub invariant-loop-done : goal.invariant-loop-done
invariant-loop-done l = (k : ℕ) → k < l.done-index → get_or l.done-items k false ≡ true
