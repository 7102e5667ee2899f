-- The bits of cells and output pads, where the input pads have the bits x, as equations over
-- sources and tables that hold all at once.
use Rattle.std.specs.Prelude.{◌≡◌, ℕ, ◌<◌, true, List, length, map, slice_index, slice_index_or}
use Rattle.fabric_defs.specs.Wirings.{table_bit}
use Rattle.cell_defs.specs.declared.source.Source.{Source}
use Rattle.cell_defs.specs.declared.source.Source.TheVariants.{Zero, Pad, Cell}
use Rattle.cell_defs.specs.Cells.{CellValue, CellsValue, cell_at}
use Rattle.cell_defs.specs.Cones.{in_cone}

-- where the cells have the bits a; an input pad past the bits of x has the bit 0
abbrev pub source_bit : List ℕ → List ℕ → Source → ℕ
source_bit x a Zero = 0
source_bit x a (Pad p) = slice_index_or x p 0
source_bit x a (Cell k) = slice_index a k

-- the bits of these sources
abbrev pub source_bits : List ℕ → List ℕ → List Source → List ℕ
source_bits x a sources = map (source_bit x a) sources

-- the bit of its table that the pins of a cell choose, however many there are and wherever they
-- listen
abbrev pub chosen_bit : List ℕ → List ℕ → CellValue → ℕ
chosen_bit x a cell = table_bit cell.table (source_bits x a cell.pins)

-- cell k has the bit of its table that its pins choose
abbrev pub IsCellBit : CellsValue → List ℕ → List ℕ → ℕ → Type 0
IsCellBit cells x a k = slice_index a k ≡ chosen_bit x a (cell_at cells k)

-- all cells have the bits a
pub record CellBits (cells : CellsValue) (x a : List ℕ) : Type 0 where
  pub count : length a ≡ length cells.cells
  pub each : (k : ℕ) → k < length cells.cells → IsCellBit cells x a k

-- the cells of the cone have the bits a; nothing is said of the others
abbrev pub ConeBits : CellsValue → List ℕ → List ℕ → Type 0
ConeBits cells x a =
    (k : ℕ) → k < length cells.cells → in_cone cells k ≡ true → IsCellBit cells x a k

-- the bits of the output pads
abbrev pub output_bits : CellsValue → List ℕ → List ℕ → List ℕ
output_bits cells x a = source_bits x a cells.outputs
