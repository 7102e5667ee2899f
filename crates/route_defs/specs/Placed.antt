-- Configurations that place mapped cells: each cell in its column, below the cells of that column with
-- lower numbers, and each signal on one track from its first channel to its last.
use Rattle.std.specs.Prelude.{◌≡◌, ◌≢◌, ℕ, zero, suc, ◌%◌, ◌^◌, ◌<◌, ◌≤◌, List, length, take, slice_index, slice_index_or}
use Rattle.fabric_defs.specs.Geometries.{GeometryValue, pin_count, table_bits, cell_number}
use Rattle.fabric_defs.specs.Configurations.{ConfigValue, IsConfig, first_word, pin_word, table, track_word, output_word}
use Rattle.cell_defs.specs.declared.source.Source.{Source}
use Rattle.cell_defs.specs.declared.source.Source.TheVariants.{Zero, Pad, Cell}
use Rattle.cell_defs.specs.Cells.{CellValue}
use Rattle.cell_defs.specs.Sources.{track_source, pin_source, output_source}
use Rattle.map_defs.specs.Mapped.{MappedValue, mapped_cell}
use Rattle.map_defs.specs.Columns.{AreColumns}
use Rattle.route_defs.specs.declared.span.Span.{Span}
use Rattle.route_defs.specs.Spans.{IsLive}
use Rattle.route_defs.specs.Signals.{IsSignal, signal_number, span_of, AreSpans}
use Rattle.route_defs.specs.Demands.{cells_in}
use Rattle.route_defs.specs.Tracks.{AreTracks}

-- the row of cell k: as many cells with lower numbers have its column
abbrev pub row_of : List ℕ → ℕ → ℕ
row_of columns k = cells_in (take k columns) (slice_index columns k)

-- the number that cell k has on the fabric
abbrev pub placed_number : GeometryValue → List ℕ → ℕ → ℕ
placed_number g columns k = cell_number g (slice_index columns k) (row_of columns k)

-- the source of the fabric that stands for a source of the mapped cells
abbrev pub placed_source : GeometryValue → List ℕ → Source → Source
placed_source g columns Zero = Zero
placed_source g columns (Pad i) = Pad i
placed_source g columns (Cell k) = Cell (placed_number g columns k)

-- where pin number `pin` of a cell listens; nowhere past the last one
abbrev pub pin_of : CellValue → ℕ → Source
pin_of cell pin = slice_index_or cell.pins pin Zero

-- where output o listens; nowhere past the last one
abbrev pub output_of : MappedValue → ℕ → Source
output_of l o = slice_index_or l.outputs o Zero

-- the word of track t of channel c
abbrev pub channel_word : ConfigValue → ℕ → ℕ → ℕ
channel_word config zero t = first_word config t
channel_word config (suc c) t = track_word config c t

-- the track of a signal
abbrev pub track_of : MappedValue → List ℕ → Source → ℕ
track_of l tracks s = slice_index tracks (signal_number l s)

-- there is room on the fabric for mapped cells with these columns
pub record HaveRoom (l : MappedValue) (g : GeometryValue) (columns : List ℕ) : Type 0 where
  pub input_pads : l.inputs ≤ g.input_pads
  pub output_pads : length l.outputs ≤ g.output_pads
  pub column : (k : ℕ) → k < length l.cells → slice_index columns k < g.columns
  pub row : (k : ℕ) → k < length l.cells → row_of columns k < g.rows

-- the cells of the configuration are the mapped cells at their columns and rows; what is not used is off
pub record HasPlacedCells (l : MappedValue) (columns : List ℕ) (config : ConfigValue) : Type 0 where
  pub pins : (k pin : ℕ) → k < length l.cells → pin < pin_count config.geometry
      → pin_source config (slice_index columns k) (row_of columns k) pin
      ≡ placed_source config.geometry columns (pin_of (mapped_cell l k) pin)
  pub no_pins : (k pin : ℕ) → k < length l.cells → pin < pin_count config.geometry
      → pin_of (mapped_cell l k) pin ≡ Zero
      → pin_word config (slice_index columns k) (row_of columns k) pin ≡ 0
  pub tables : (k : ℕ) → k < length l.cells
      → table config (slice_index columns k) (row_of columns k)
      ≡ (mapped_cell l k).table % 2 ^ table_bits config.geometry
  pub free_pins : (column row pin : ℕ) → column < config.geometry.columns
      → row < config.geometry.rows → pin < pin_count config.geometry → cells_in columns column ≤ row
      → pin_word config column row pin ≡ 0
  pub free_tables : (column row : ℕ) → column < config.geometry.columns
      → row < config.geometry.rows → cells_in columns column ≤ row → table config column row ≡ 0

-- the output pads listen where the outputs do; those past the last output are off
pub record HasPlacedOutputs (l : MappedValue) (columns : List ℕ) (config : ConfigValue) : Type 0 where
  pub outputs : (o : ℕ) → o < config.geometry.output_pads
      → output_source config o ≡ placed_source config.geometry columns (output_of l o)
  pub no_outputs : (o : ℕ) → o < config.geometry.output_pads → output_of l o ≡ Zero
      → output_word config o ≡ 0

-- each live signal has its track on all its channels; the tracks of no signal are off
pub record HasPlacedTracks (l : MappedValue) (columns : List ℕ) (spans : List Span) (tracks : List ℕ) (config : ConfigValue) : Type 0 where
  pub choice : AreTracks spans config.geometry.tracks tracks
  pub signals : (s : Source) (c : ℕ) → IsSignal l s → c ≤ config.geometry.columns
      → IsLive (span_of l spans s) c
      → track_source config c (track_of l tracks s) ≡ placed_source config.geometry columns s
  pub free_tracks : (c t : ℕ) → c ≤ config.geometry.columns → t < config.geometry.tracks
      → ((s : Source) → IsSignal l s → IsLive (span_of l spans s) c → track_of l tracks s ≢ t)
      → channel_word config c t ≡ 0

-- the configuration places mapped cells with these columns and spans, its signals on these tracks
pub record IsPlaced (l : MappedValue) (columns : List ℕ) (spans : List Span) (tracks : List ℕ) (config : ConfigValue) : Type 0 where
  pub configuration : IsConfig config
  pub room : HaveRoom l config.geometry columns
  pub few_pins : (k : ℕ) → k < length l.cells
      → length (mapped_cell l k).pins ≤ pin_count config.geometry
  pub cells : HasPlacedCells l columns config
  pub output_pads : HasPlacedOutputs l columns config
  pub channels : HasPlacedTracks l columns spans tracks config

-- the configuration of this fabric places the mapped cells
abbrev pub PlacedOf : MappedValue → GeometryValue → ConfigValue → Type 0
PlacedOf l g config =
    (config.geometry ≡ g) × (columns : List ℕ) × (spans : List Span) × (tracks : List ℕ)
    × AreColumns l columns × AreSpans l columns g.columns spans × IsPlaced l columns spans tracks config
