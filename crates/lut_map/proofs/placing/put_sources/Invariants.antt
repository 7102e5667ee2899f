use Rattle.std.proofs.Common.{◌≡◌, map, take}
use Rattle.map_defs.specs.Reference.{source_in}
use Rattle.lut_map.specs.Parts.{source_by}
use Rattle.lut_map.proofs.placing.put_sources.Given as goal

abbrev pub invariant-loop-source : goal.invariant-loop-source
invariant-loop-source l =
    l.pins.items ≡ map (source_in (source_by l.inputs l.ends) l.fan_ins l.first) (take l.source-index l.own)
