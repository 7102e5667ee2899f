use Rattle.std.proofs.Common.{ap, ◌∙◌, slice_set}
use Rattle.std.proofs.lemmas.List.{map-set}
use Rattle.fabric.specs.BitArrays.{bit_of}
use Rattle.fabric.proofs.bit_array.BitArray.set.Goals as goal

-- the bit that is written stands at its place alone
pub returns : goal.returns
returns c =
    map-set bit_of c.self.inside.bits.items c.args.place c.args.bit
    ∙ ap (λ l. slice_set l c.args.place (bit_of c.args.bit)) c.self.view_is
