use Rattle.std.proofs.Common.{◌≡◌}
use Rattle.fabric_defs.specs.Numbered.{list_of}
use Rattle.cell_defs.specs.declared.source.Source.TheVariants.{Pad}
use Rattle.lut_map.proofs.nodes.put_pads.Given as goal

abbrev pub invariant-loop-pin : goal.invariant-loop-pin
invariant-loop-pin l = l.pins.items ≡ list_of l.pin Pad
