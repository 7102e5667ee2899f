-- Cells in flat lists: the pins of each, and beside them the tables.
use Rattle.std.specs.Prelude.{ℕ, List, [], ◌∷◌, length, slice_index_or, sum_by}
use Rattle.cell_defs.specs.declared.source.Source.{Source}
use Rattle.cell_defs.specs.Cells.{CellValue, no_cell}

-- the cells with these pins and these tables, as many as there are of both
abbrev pub cells_of : List (List Source) → List ℕ → List CellValue
cells_of [] tables = []
cells_of (pins ∷ rest) [] = []
cells_of (pins ∷ rest) (table ∷ tables) =
    record { pins = pins; table = table } ∷ cells_of rest tables

-- cell k of a list
abbrev pub listed_cell : List CellValue → ℕ → CellValue
listed_cell cells k = slice_index_or cells k no_cell

-- how many pins the cells have together
abbrev pub pins_in : List CellValue → ℕ
pins_in cells = sum_by (λ (cell : CellValue). length cell.pins) cells
