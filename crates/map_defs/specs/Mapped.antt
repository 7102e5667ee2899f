-- Mapped cells: a list of cells without columns, rows or tracks.
use Rattle.std.specs.Prelude.{ℕ, zero, suc, ◌<◌, ◌≤◌, ◌^◌, ⊤, List, length, slice_index_or, All}
use Rattle.fabric_defs.specs.declared.limits.TheConstants.{MAX_PINS}
use Rattle.cell_defs.specs.declared.source.Source.{Source}
use Rattle.cell_defs.specs.declared.source.Source.TheVariants.{Zero, Pad, Cell}
use Rattle.cell_defs.specs.Cells.{CellValue, no_cell, IsSourceBelow}
use Rattle.map_defs.specs.declared.limits.TheConstants.{TABLE_BITS, MAX_COUNT}
use Rattle.map_defs.specs.Tables.{IsRepeated}

-- so many inputs, the cells by number, and the sources of the outputs; `Pad i` is input i, and `Cell k`
-- the k-th of the cells, which may be a later one than the cell that listens to it
pub record MappedValue : Type 0 where
  pub inputs : ℕ
  pub cells : List CellValue
  pub outputs : List Source

-- cell k
abbrev pub mapped_cell : MappedValue → ℕ → CellValue
mapped_cell l k = slice_index_or l.cells k no_cell

-- a source that is nowhere, one of so many inputs, or a cell of the set
abbrev pub IsSourceAmong : ℕ → (ℕ → Type 0) → Source → Type 0
IsSourceAmong inputs set Zero = ⊤
IsSourceAmong inputs set (Pad p) = p < inputs
IsSourceAmong inputs set (Cell k) = set k

-- cell k is settled after this many rounds: each of its pins is nowhere, an input, or a cell settled one
-- round before
abbrev pub IsSettledCell : MappedValue → ℕ → ℕ → Type 0
IsSettledCell l zero k = ⊥
IsSettledCell l (suc n) k =
    (k < length l.cells) × All (IsSourceAmong l.inputs (IsSettledCell l n)) (mapped_cell l k).pins

-- a cell has no more pins than any kind of cell, and its table is repeated over the pins that it hasn't
pub record IsMappedCell (cell : CellValue) : Type 0 where
  pub few_pins : length cell.pins ≤ MAX_PINS
  pub table : cell.table < 2 ^ TABLE_BITS
  pub repeated : IsRepeated (length cell.pins) cell.table

-- every cell is settled after some number of rounds
abbrev pub AreSettled : MappedValue → Type 0
AreSettled l = (rounds : ℕ) × ((k : ℕ) → k < length l.cells → IsSettledCell l rounds k)

-- all cells are mapped cells and settled, and each output is nowhere, an input or a cell
pub record AreMapped (l : MappedValue) : Type 0 where
  pub each : (k : ℕ) → k < length l.cells → IsMappedCell (mapped_cell l k)
  pub settled : AreSettled l
  pub outputs : All (IsSourceBelow l.inputs (length l.cells)) l.outputs

-- there are so few of everything that their numbers fit
pub record AreFew (l : MappedValue) : Type 0 where
  pub inputs : l.inputs < MAX_COUNT
  pub cells : length l.cells < MAX_COUNT
  pub outputs : length l.outputs < MAX_COUNT
