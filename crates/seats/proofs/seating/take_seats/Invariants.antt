use Rattle.route_laws.specs.Seats.{HaveSeats}
use Rattle.seats.proofs.seating.take_seats.Given as goal

abbrev pub invariant-loop-n : goal.invariant-loop-n
invariant-loop-n l = HaveSeats l.inputs l.fn.g l.spans l.seats l.n l.seated.items l.signals.items
