-- What is read back of a configuration that places mapped cells.
use Rattle.std.specs.Prelude.{ℕ, ◌%◌, ◌^◌, List}
use Rattle.fabric_defs.specs.Numbered.{list_of}
use Rattle.fabric_defs.specs.Geometries.{GeometryValue, pin_count, table_bits}
use Rattle.cell_defs.specs.declared.source.Source.{Source}
use Rattle.cell_defs.specs.Cells.{CellValue}
use Rattle.map_defs.specs.Mapped.{MappedValue}
use Rattle.route_defs.specs.Placed.{placed_source, pin_of, output_of}

-- a mapped cell on the fabric: its pins listen to where their sources are placed, those that it hasn't
-- listen nowhere, and the table is cut to the pins of the fabric's cells
abbrev pub placed_cell : GeometryValue → List ℕ → CellValue → CellValue
placed_cell g columns cell = record {
  pins = list_of (pin_count g) (λ pin. placed_source g columns (pin_of cell pin));
  table = cell.table % 2 ^ table_bits g;
}

-- where the output pads listen
abbrev pub placed_outputs : GeometryValue → List ℕ → MappedValue → List Source
placed_outputs g columns l = list_of g.output_pads (λ o. placed_source g columns (output_of l o))
