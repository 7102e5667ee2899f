use Rattle.std.proofs.Common.{◌≡◌}
use Rattle.fabric_defs.specs.Numbered.{list_of}
use Rattle.route_laws.specs.Seats.{empty_span}
use Rattle.seats.proofs.seating.empty_seats.Given as goal

abbrev pub invariant-loop-seat : goal.invariant-loop-seat
invariant-loop-seat l = l.spans.items ≡ list_of l.seat (empty_span l.inputs l.g)
