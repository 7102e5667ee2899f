use Rattle.lut_map.specs.Marks.{is_marked}
use Rattle.lut_map.specs.Parts.{AreParts}
use Rattle.lut_map.proofs.parts.parts_of.Given as goal

abbrev pub invariant-loop-v : goal.invariant-loop-v
invariant-loop-v l = AreParts l.net (is_marked l.needed.items) l.v l.cells l.ends.items
