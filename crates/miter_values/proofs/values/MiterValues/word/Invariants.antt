use Rattle.std.proofs.Common.{◌≡◌, ◌-◌, ◌^◌, ◌<◌, length, map, drop}
use Rattle.pch_base.specs.BitLists.{word_of}
use Rattle.miter_values.specs.Parts.{source_value}
use Rattle.miter_values.proofs.values.MiterValues.word.Given as goal

-- the word has the bits of the pins from here on
abbrev pub invariant-loop-pin : goal.invariant-loop-pin
invariant-loop-pin l = record {
  word : l.word ≡ word_of (map (source_value l.self.net l.self.cells l.e) (drop l.pin l.pins));
  below : l.word < 2 ^ (length l.pins - l.pin);
}
