-- The column of each mapped cell: after those of all cells to which it listens.
use Rattle.std.specs.Prelude.{◌≡◌, ℕ, ◌+◌, ◌<◌, max, List, [], ◌∷◌, length, slice_index}
use Rattle.cell_defs.specs.declared.source.Source.{Source}
use Rattle.cell_defs.specs.declared.source.Source.TheVariants.{Zero, Pad, Cell}
use Rattle.map_defs.specs.Mapped.{MappedValue, mapped_cell}

-- where the cells have these columns: 0 where none of the sources is a cell, else one more than the
-- greatest column of these cells
abbrev pub column_after : List ℕ → List Source → ℕ
column_after columns [] = 0
column_after columns (Zero ∷ rest) = column_after columns rest
column_after columns (Pad p ∷ rest) = column_after columns rest
column_after columns (Cell k ∷ rest) = max (slice_index columns k + 1) (column_after columns rest)

-- the cells have these columns: each its own of the columns of its pins
pub record AreColumns (l : MappedValue) (columns : List ℕ) : Type 0 where
  pub count : length columns ≡ length l.cells
  pub each : (k : ℕ) → k < length l.cells
      → slice_index columns k ≡ column_after columns (mapped_cell l k).pins
