-- What is known while the columns of a configuration are passed.
use Rattle.std.specs.Prelude.{◌≡◌, ℕ, ◌<◌, Bool, true, false, List, ◌++◌, length, map, slice_index_or}
use Rattle.clause_defs.specs.Clauses.{Has}
use Rattle.fabric_defs.specs.Numbered.{list_of, joined}
use Rattle.fabric_defs.specs.Configurations.{ConfigValue}
use Rattle.cell_defs.specs.declared.source.Source.{Source}
use Rattle.cell_defs.specs.declared.source.Source.TheVariants.{Zero, Cell}
use Rattle.cell_defs.specs.Cells.{CellValue}
use Rattle.cell_defs.specs.Sources.{tapped_source, track_source, cell_of}

-- the sources of the tracks of channel c
pub record IsChannel (config : ConfigValue) (c : ℕ) (tracks : List Source) : Type 0 where
  pub count : length tracks ≡ config.geometry.tracks
  pub each : (t : ℕ) → t < config.geometry.tracks
      → slice_index_or tracks t Zero ≡ track_source config c t

-- where each word listens among the tracks
abbrev pub tapped_sources : List Source → List ℕ → List Source
tapped_sources tracks words = map (tapped_source (λ t. slice_index_or tracks t Zero)) words

-- the cells of the first columns, and of the first rows of the column after them
abbrev pub cells_before : ConfigValue → ℕ → ℕ → List CellValue
cells_before config columns rows =
    joined columns (λ column. list_of config.geometry.rows (cell_of config column))
    ++ list_of rows (cell_of config columns)

-- the flag of a cell is set; past the last flag none is
abbrev pub IsMarked : List Bool → ℕ → Type 0
IsMarked flags k = slice_index_or flags k false ≡ true

-- the cells among these sources have numbers below this one
abbrev pub AreCellsBelow : ℕ → List Source → Type 0
AreCellsBelow end sources = (k : ℕ) → Has sources (Cell k) → k < end
