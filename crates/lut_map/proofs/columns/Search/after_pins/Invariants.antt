use Rattle.std.proofs.Common.{◌≡◌, drop}
use Rattle.lut_map.specs.Search.{after_pins}
use Rattle.lut_map.proofs.columns.Search.after_pins.Given as goal

abbrev pub invariant-loop-pin : goal.invariant-loop-pin
invariant-loop-pin l =
    after_pins l.self.states.items l.column (drop l.pin-index l.pins) ≡ after_pins l.self.states.items 0 l.pins
