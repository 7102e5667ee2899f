use Rattle.std.proofs.Common.{◌≡◌, ◌++◌, length}
use Rattle.fabric_defs.specs.Numbered.{joined}
use Rattle.route_laws.specs.Seats.{seats_until}
use Rattle.route_laws.specs.Listing.{AreHolders, listed_channel, listed_column}
use Rattle.place_route.proofs.writing.Routing.words.Given as goal

abbrev pub invariant-loop-column : goal.invariant-loop-column
invariant-loop-column l = record {
  tracks : length l.holders.items ≡ l.g.tracks;
  holders : AreHolders l.self.spans.items l.self.chosen.items (seats_until l.l.inputs l.g l.column) l.holders.items;
  words : l.words.items ≡ listed_channel l.l.inputs l.g l.self.spans.items l.self.chosen.items 0
      ++ joined l.column (listed_column l.l l.g l.self.spans.items l.self.chosen.items l.self.tracks.items l.self.signals.items);
}
