use Rattle.std.proofs.Common.{ap, ◌∙◌}
use Rattle.pch_base.specs.BitLists.{bits_of}
use Rattle.slot_core.proofs.FirstBits.{bits_of-first}
use Rattle.slot_core.proofs.cycle.first_bits.Goals as goal

pub returns : goal.returns
returns c =
    c.new.ensures ∙ ap (bits_of c.args.count) c.low_bits.ensures
    ∙ bits_of-first c.args.count c.word.result c.args.bits c.requires.within c.word.ensures.bits
