-- Cells with the sources of their pins, and the sources of output pads.
use Rattle.std.specs.Prelude.{◌≡◌, ℕ, ◌<◌, ◌^◌, Bool, ⊤, List, [], length, All, slice_index_or}
use Rattle.fabric_defs.specs.Geometries.{GeometryValue, IsGeometry, pin_count, table_bits, cell_count}
use Rattle.cell_defs.specs.declared.source.Source.{Source}
use Rattle.cell_defs.specs.declared.source.Source.TheVariants.{Zero, Pad, Cell}

-- a cell: the source of each pin, and the table, of which bit k is the output where bit j of k is
-- the bit of pin j
pub record CellValue : Type 0 where
  pub pins : List Source
  pub table : ℕ

-- the cells of a fabric by number, the sources of its output pads, and which cells are in the cone
pub record CellsValue : Type 0 where
  pub geometry : GeometryValue
  pub cells : List CellValue
  pub outputs : List Source
  pub cone : List Bool

-- what stands past the last cell, where nothing looks
abbrev pub no_cell : CellValue
no_cell = record { pins = []; table = 0 }

-- cell k
abbrev pub cell_at : CellsValue → ℕ → CellValue
cell_at cells k = slice_index_or cells.cells k no_cell

-- one of so many input pads, or a cell with a number below `end`
abbrev pub IsSourceBelow : ℕ → ℕ → Source → Type 0
IsSourceBelow pads end Zero = ⊤
IsSourceBelow pads end (Pad p) = p < pads
IsSourceBelow pads end (Cell k) = k < end

-- cell k of a fabric: it has all its pins, they listen to cells with lower numbers only, and its
-- table fits them
pub record IsCell (g : GeometryValue) (k : ℕ) (cell : CellValue) : Type 0 where
  pub pins : length cell.pins ≡ pin_count g
  pub sources : All (IsSourceBelow g.input_pads k) cell.pins
  pub table : cell.table < 2 ^ table_bits g

-- the cells and the output pads of a fabric; nothing is said of the cone
pub record AreCells (cells : CellsValue) : Type 0 where
  pub geometry : IsGeometry cells.geometry
  pub count : length cells.cells ≡ cell_count cells.geometry
  pub each : (k : ℕ) → k < cell_count cells.geometry → IsCell cells.geometry k (cell_at cells k)
  pub pads : length cells.outputs ≡ cells.geometry.output_pads
  pub outputs :
      All (IsSourceBelow cells.geometry.input_pads (cell_count cells.geometry)) cells.outputs
