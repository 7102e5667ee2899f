use Rattle.std.proofs.Common.{◌≡◌, ◌++◌}
use Rattle.fabric_defs.specs.Numbered.{joined}
use Rattle.route_laws.specs.Listing.{listed_row}
use Rattle.place_route.proofs.writing.Routing.push_cells.Given as goal

abbrev pub invariant-loop-row : goal.invariant-loop-row
invariant-loop-row l =
    l.words.items ≡ l.initial.words.items ++ joined l.row (listed_row l.l l.g l.self.tracks.items l.self.signals.items l.fn.column)
