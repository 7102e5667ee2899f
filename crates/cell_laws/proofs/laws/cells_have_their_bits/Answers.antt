use Rattle.cell_laws.proofs.CellsLemmas.{some_wiring, cells-outputs, cells-wired}
use Rattle.cell_laws.proofs.laws.cells_have_their_bits.Goals as goal

-- a wiring's cells obey the equations, which have one solution
pub returns-clause-cells : goal.returns-clause-cells
returns-clause-cells c config cells x a h of bits n lt =
    let w = some_wiring config x h in (w.0, w.1, cells-wired config cells x a w.0 h of w.1 bits n lt)

-- so the output pads have the bits of the wiring
pub returns-clause-outputs : goal.returns-clause-outputs
returns-clause-outputs c config cells x a h of bits =
    let w = some_wiring config x h in (w.0, w.1, cells-outputs config cells x a w.0 h of w.1 bits)
