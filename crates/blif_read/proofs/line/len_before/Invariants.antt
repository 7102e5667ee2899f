use Rattle.std.proofs.Common.{◌≡◌, ℕ, ◌<◌, get_or, nat_eq, false}
use Rattle.blif_read.proofs.line.len_before.Given as goal

-- no byte so far is the one that is looked for
abbrev pub invariant-loop-i : goal.invariant-loop-i
invariant-loop-i l = (k : ℕ) → k < l.i → nat_eq (get_or l.bytes k 0) l.c ≡ false
