-- What the mapped cells of a list keep.
use Rattle.std.specs.Prelude.{ℕ, ◌<◌, List, length, All}
use Rattle.cell_defs.specs.declared.source.Source.{Source}
use Rattle.cell_defs.specs.Cells.{CellValue}
use Rattle.map_defs.specs.Mapped.{MappedValue, AreMapped, AreFew}
use Rattle.map_defs.specs.Columns.{AreColumns}

-- mapped cells, by their parts
abbrev pub luts_of : ℕ → List CellValue → List Source → MappedValue
luts_of inputs cells outputs = record { inputs = inputs; cells = cells; outputs = outputs }

-- mapped cells, so few that their numbers fit
pub record AreLuts (l : MappedValue) : Type 0 where
  pub mapped : AreMapped l
  pub few : AreFew l

-- the same with their columns, each of which is less than the number of cells
pub record AreKept (l : MappedValue) (columns : List ℕ) : Type 0 where
  pub known : AreLuts l
  pub found : AreColumns l columns
  pub small : All (λ column. column < length l.cells) columns
