use Rattle.std.proofs.Common.{◌≡◌}
use Rattle.fabric_defs.specs.Numbered.{list_of}
use Rattle.route_laws.specs.Seats.{seat_of}
use Rattle.seats.proofs.seating.seats_of.Given as goal

abbrev pub invariant-loop-n : goal.invariant-loop-n
invariant-loop-n l = l.seats.items ≡ list_of l.n (seat_of l.inputs l.g l.columns l.rows)
