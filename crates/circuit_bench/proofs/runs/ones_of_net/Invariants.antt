use Rattle.std.proofs.Common.{◌≡◌, length}
use Rattle.circuit_bench.proofs.runs.ones_of_net.Given as goal

-- the room stays that of the net
abbrev pub invariant-loop : goal.invariant-loop
invariant-loop l = length l.s ≡ length l.fn.s
