use Rattle.std.proofs.Common.{◌≡◌, map, take}
use Rattle.log_defs.specs.LogTraces.{place_with}
use Rattle.proof_log.proofs.trace.list_places.Given as goal

abbrev pub invariant-loop-index : goal.invariant-loop-index
invariant-loop-index l = l.places.items ≡ map place_with (take l.index-index l.indices)
