use Rattle.std.proofs.Common.{◌≡◌, length, map, take}
use Rattle.net_defs.specs.Evaluation.{output_signals}
use Rattle.lut_map.specs.Parts.{source_by}
use Rattle.lut_map.proofs.mapping.output_sources.Given as goal

abbrev pub invariant-loop-o : goal.invariant-loop-o
invariant-loop-o l = l.sources.items ≡ map (source_by (length l.net.inputs) l.ends) (take l.o (output_signals l.net))
