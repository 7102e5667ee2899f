use Rattle.std.proofs.Common.{◌≡◌, ◌-◌, ◌^◌, ◌<◌, length, map, drop, slice_index}
use Rattle.pch_base.specs.BitLists.{word_of}
use Rattle.fabric.proofs.evaluation.pins_number.Given as goal

-- the number has the bits of the pins from here on
abbrev pub invariant-loop-pin : goal.invariant-loop-pin
invariant-loop-pin l = record {
  number : l.number ≡ word_of (map (slice_index l.tracks) (drop l.pin l.pins));
  below : l.number < 2 ^ (length l.pins - l.pin);
}
