use Rattle.std.proofs.Common.{◌≡◌, length}
use Rattle.route_laws.specs.Listing.{AreHolders}
use Rattle.placing_words.proofs.channels.hold.Given as goal

abbrev pub invariant-loop-seat : goal.invariant-loop-seat
invariant-loop-seat l = record {
  count : length l.holders.items ≡ length l.initial.holders.items;
  holders : AreHolders l.spans l.chosen l.seat l.holders.items;
}
