use Rattle.std.proofs.Common.{◌≡◌, ℕ, List, get_or, ap, ◌∙◌}
use Rattle.fabric_defs.specs.Numbered.{list_of}
use Rattle.fabric_defs.specs.Geometries.{pin_count}
use Rattle.fabric_laws.proofs.NumberedLemmas.{list_of-agree}
use Rattle.fabric_defs.specs.Configurations.{table}
use Rattle.cell_defs.specs.declared.source.Source.{Source}
use Rattle.cell_defs.specs.Cells.{CellValue}
use Rattle.cell_defs.specs.Sources.{pin_source, output_source}
use Rattle.map_defs.specs.Mapped.{mapped_cell}
use Rattle.route_defs.specs.Placed.{row_of, placed_source, pin_of, output_of}
use Rattle.place_laws.proofs.laws.placed_cells_are_read_back.Goals as goal

-- each pin and the table are those of the placed cell
pub returns-clause-cells : goal.returns-clause-cells
returns-clause-cells c l columns tracks spans config cells k placed sources lt =
    let g = config.geometry in
    let column : ℕ = get_or columns k 0 in
    let row : ℕ = row_of columns k in
    let pins : list_of (pin_count g) (pin_source config column row)
    ≡ list_of (pin_count g) (λ pin. placed_source g columns (pin_of (mapped_cell l k) pin)) =
    list_of-agree (pin_count g) (pin_source config column row) (λ pin. placed_source g columns (pin_of (mapped_cell l k) pin))
    (λ pin below. placed.cells.pins k pin lt below) in
    let with_pins : List Source → CellValue = λ ps. record { pins = ps; table = table config column row } in
    sources.each column row (placed.room.column k lt) (placed.room.row k lt)
    ∙ ap with_pins pins
    ∙ ap (λ t. record { pins = list_of (pin_count g) (λ pin. placed_source g columns (pin_of (mapped_cell l k) pin)); table = t }) (placed.cells.tables k lt)

-- each output pad listens where its output does
pub returns-clause-outputs : goal.returns-clause-outputs
returns-clause-outputs c l columns tracks spans config cells placed sources =
    sources.outputs
    ∙ list_of-agree config.geometry.output_pads (output_source config) (λ o. placed_source config.geometry columns (output_of l o))
    (λ o below. placed.output_pads.outputs o below)
