use Rattle.std.proofs.Common.{◌≡◌, length, All}
use Rattle.slot_core.specs.Slots.{no_place}
use Rattle.slot_core.proofs.table.vacant_places.Given as goal

abbrev pub invariant-loop-slot : goal.invariant-loop-slot
invariant-loop-slot l = (length l.places.items ≡ l.slot) × All (λ p. p ≡ no_place) l.places.items
