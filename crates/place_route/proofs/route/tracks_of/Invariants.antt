use Rattle.std.proofs.Common.{◌≡◌, slice_index}
use Rattle.fabric_defs.specs.Numbered.{list_of}
use Rattle.place_route.proofs.route.tracks_of.Given as goal

abbrev pub invariant-loop-seat : goal.invariant-loop-seat
invariant-loop-seat l = l.tracks.items ≡ list_of l.seat-index (λ n. slice_index l.chosen (slice_index l.seats n))
