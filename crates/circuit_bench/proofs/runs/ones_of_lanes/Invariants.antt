use Rattle.std.proofs.Common.{◌≡◌, length}
use Rattle.circuit_bench.proofs.runs.ones_of_lanes.Given as goal

-- the room stays that of the fabric, and so do the numbers of words
abbrev pub invariant-loop : goal.invariant-loop
invariant-loop l = record {
  words : length l.words ≡ l.config.geometry.input_pads;
  out : length l.out ≡ l.config.geometry.output_pads;
  wires : l.w ≡ l.config.geometry;
}
