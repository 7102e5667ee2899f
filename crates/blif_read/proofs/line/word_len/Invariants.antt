use Rattle.std.proofs.Common.{◌≡◌, ℕ, ◌<◌, get_or, false}
use Rattle.blif_defs.specs.Words.{is_blank}
use Rattle.blif_read.proofs.line.word_len.Given as goal

-- no byte so far is a blank
abbrev pub invariant-loop-i : goal.invariant-loop-i
invariant-loop-i l = (k : ℕ) → k < l.i → is_blank (get_or l.line k 0) ≡ false
