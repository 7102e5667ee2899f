use Rattle.std.proofs.Common.{◌≤◌, vec_len}
use Rattle.pch_io.proofs.whole.read_whole.Given as goal

-- no more was read than the limit
abbrev pub invariant-loop : goal.invariant-loop
invariant-loop g l = vec_len l.bytes ≤ l.max
