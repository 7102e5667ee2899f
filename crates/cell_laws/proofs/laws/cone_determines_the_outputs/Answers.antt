use Rattle.cell_laws.proofs.CellsLemmas.{some_wiring, cone-outputs}
use Rattle.cell_laws.proofs.laws.cone_determines_the_outputs.Goals as goal

-- the cells of the cone have the bits of a wiring, and the output pads listen to no others
pub returns : goal.returns
returns c config cells x a h of closed bits =
    let w = some_wiring config x h in (w.0, w.1, cone-outputs config cells x a w.0 h of w.1 closed bits)
