use Rattle.std.proofs.Common.{ap, ◌∙◌}
use Rattle.pch_base.specs.BitLists.{bits_of}
use Rattle.lut_map.proofs.FillLemmas.{pattern_bits}
use Rattle.lut_map.proofs.tables.pattern.Goals as goal

pub returns : goal.returns
returns c =
    c.new.ensures ∙ pattern_bits c.from.result c.args.pins c.requires ∙ ap (bits_of c.args.pins) c.from.ensures
