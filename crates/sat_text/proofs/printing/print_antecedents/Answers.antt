use Rattle.std.proofs.Common.{get_or}
use Rattle.sat_text.proofs.Pieces.{Has-get_or}
use Rattle.sat_text.proofs.printing.print_antecedents.Goals as goal

-- each antecedent is a clause of the trace
pub index-requires : goal.index-requires
index-requires c =
    c.requires (get_or c.args.antecedents.now c.loop-place.place-index 0) (Has-get_or c.args.antecedents.now c.loop-place.place-index c.loop-place-test.true)
