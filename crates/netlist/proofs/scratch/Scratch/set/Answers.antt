use Rattle.std.proofs.Common.{ap, ◌∙◌, slice_set}
use Rattle.std.proofs.lemmas.List.{map-set}
use Rattle.netlist.specs.Places.{bit_of}
use Rattle.netlist.proofs.scratch.Scratch.set.Goals as goal

-- the bit that is written stands at its signal alone
pub returns : goal.returns
returns c =
    map-set bit_of c.self.inside.bits.items c.args.signal c.args.bit
    ∙ ap (λ l. slice_set l c.args.signal (bit_of c.args.bit)) c.self.view_is
