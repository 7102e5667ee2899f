use Rattle.std.proofs.Common.{◌≡◌}
use Rattle.circuit_bench.proofs.runs.ones_of_config.Given as goal

-- the room stays that of the fabric
abbrev pub invariant-loop : goal.invariant-loop
invariant-loop l = l.w.geometry ≡ l.fn.w.geometry
