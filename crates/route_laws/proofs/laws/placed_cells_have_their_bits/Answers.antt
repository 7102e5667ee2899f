use Rattle.std.proofs.Common.{get_or, ap, ◌∙◌}
use Rattle.fabric_defs.specs.Wirings.{Wiring}
use Rattle.fabric_laws.proofs.LimitLemmas.{track_word-le}
use Rattle.fabric_laws.proofs.WiringLemmas.{wiring_is_unique}
use Rattle.cell_laws.proofs.CellsLemmas.{some_wiring}
use Rattle.route_defs.specs.Placed.{placed_number}
use Rattle.route_laws.proofs.FunctionLemmas.{mapped_bits}
use Rattle.route_laws.proofs.laws.placed_cells_have_their_bits.Goals as goal

pub returns : goal.returns
returns c l columns tracks spans config x a mapped placed bits count same =
    let w = some_wiring config x placed.configuration in
    mapped_bits l columns tracks spans config x a w.0 mapped placed bits w.1 count
    (λ k lt. let other = same k lt in
    other.2
    ∙ ap (λ (v : Wiring). get_or v.cells (placed_number config.geometry columns k) 0)
    (wiring_is_unique config x other.0 w.0
    (λ column t within less. track_word-le config column t placed.configuration within less) other.1 w.1))
