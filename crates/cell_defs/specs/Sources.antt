-- The sources that a configuration gives: each track passes on what stands before it.
use Rattle.std.specs.Prelude.{◌≡◌, ℕ, zero, suc, ◌<◌, List, length}
use Rattle.fabric_defs.specs.Numbered.{list_of}
use Rattle.fabric_defs.specs.Geometries.{GeometryValue, pin_count, cell_count, cell_number}
use Rattle.fabric_defs.specs.Configurations.{ConfigValue, first_word, pin_word, table, track_word, output_word}
use Rattle.cell_defs.specs.declared.source.Source.{Source}
use Rattle.cell_defs.specs.declared.source.Source.TheVariants.{Zero, Pad, Cell}
use Rattle.cell_defs.specs.Cells.{CellValue, CellsValue, cell_at}
use Rattle.cell_defs.specs.Cones.{HasCone}

-- off, or an input pad
abbrev pub pad_source : ℕ → Source
pad_source zero = Zero
pad_source (suc p) = Pad p

-- off, or the source of a track
abbrev pub tapped_source : (ℕ → Source) → ℕ → Source
tapped_source of_track zero = Zero
tapped_source of_track (suc t) = of_track t

-- off; the source before; or the cell at a column and a row
abbrev pub switched_source : GeometryValue → ℕ → Source → ℕ → Source
switched_source g column before zero = Zero
switched_source g column before (suc zero) = before
switched_source g column before (suc (suc row)) = Cell (cell_number g column row)

-- the source of track t of channel c
abbrev pub track_source : ConfigValue → ℕ → ℕ → Source
track_source config zero t = pad_source (first_word config t)
track_source config (suc c) t =
    switched_source config.geometry c (track_source config c t) (track_word config c t)

-- the source of a pin of the cell at a column and a row
abbrev pub pin_source : ConfigValue → ℕ → ℕ → ℕ → Source
pin_source config column row pin =
    tapped_source (track_source config column) (pin_word config column row pin)

-- the cell at a column and a row
abbrev pub cell_of : ConfigValue → ℕ → ℕ → CellValue
cell_of config column row = record {
  pins = list_of (pin_count config.geometry) (pin_source config column row);
  table = table config column row;
}

-- the source of an output pad
abbrev pub output_source : ConfigValue → ℕ → Source
output_source config pad =
    tapped_source (track_source config config.geometry.columns) (output_word config pad)

-- the sources of all output pads
abbrev pub output_sources : ConfigValue → List Source
output_sources config = list_of config.geometry.output_pads (output_source config)

-- the sources and tables of a configuration's cells, and the sources of its output pads; nothing is
-- said of the cone
pub record AreSourcesOf (config : ConfigValue) (cells : CellsValue) : Type 0 where
  pub geometry : cells.geometry ≡ config.geometry
  pub count : length cells.cells ≡ cell_count config.geometry
  pub each : (column row : ℕ) → column < config.geometry.columns → row < config.geometry.rows
      → cell_at cells (cell_number config.geometry column row) ≡ cell_of config column row
  pub outputs : cells.outputs ≡ output_sources config

-- the cells and sources of a configuration, with its cone
pub record AreCellsOf (config : ConfigValue) (cells : CellsValue) : Type 0 where
  pub sources : AreSourcesOf config cells
  pub cone : HasCone cells
