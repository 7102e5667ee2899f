use Rattle.std.proofs.Common.{ℕ, ◌<◌}
use Rattle.trace_places.specs.Others.{place_in}
use Rattle.trace_places.specs.Groups.{AreSlots, AreWithin}
use Rattle.trace_places.specs.Places.{MapsRight, HasAll, IsMoved}
use Rattle.trace_places.proofs.places.make_room.Given as goal

-- what the slots before this one have stands in the new slots or in the map
abbrev pub invariant-loop-slot : goal.invariant-loop-slot
invariant-loop-slot l = record {
  slots : AreSlots l.more.count l.more.tags.items l.more.numbers.items;
  some : 0 < l.more.count;
  within : AreWithin l.indices l.more.numbers.items;
  mapped : MapsRight l.indices (place_in l.others);
  all : HasAll (place_in l.fn.others) (place_in l.others);
  moved : (s : ℕ) → s < l.slot → IsMoved l.indices l.groups.numbers.items l.more.count l.more.tags.items l.more.numbers.items (place_in l.others) s;
}
