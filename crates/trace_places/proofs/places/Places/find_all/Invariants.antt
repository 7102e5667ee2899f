use Rattle.std.proofs.Common.{◌≡◌, drop}
use Rattle.sat_text_defs.specs.TraceReading.{places_from}
use Rattle.trace_places.proofs.places.Places.find_all.Given as goal

-- behind the places so far, those of the indices that are left are found
abbrev pub invariant-loop-index : goal.invariant-loop-index
invariant-loop-index l =
    places_from l.self l.found.items (drop l.index-index l.indices) ≡ places_from l.self l.fn.found.items l.indices
