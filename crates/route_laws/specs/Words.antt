-- The words of a configuration that places mapped cells, for those who write them.
use Rattle.std.specs.Prelude.{◌≡◌, ◌≢◌, ℕ, suc, ◌%◌, ◌^◌, ◌<◌, ◌≤◌, if◌then◌else◌, List, length, slice_index}
use Rattle.std.proofs.Common.{eqb}
use Rattle.fabric_defs.specs.Geometries.{pin_count, table_bits}
use Rattle.fabric_defs.specs.Configurations.{ConfigValue, pin_word, table, output_word}
use Rattle.cell_defs.specs.declared.source.Source.{Source}
use Rattle.cell_defs.specs.declared.source.Source.TheVariants.{Zero, Pad, Cell}
use Rattle.map_defs.specs.Mapped.{MappedValue, mapped_cell}
use Rattle.route_defs.specs.declared.span.Span.{Span}
use Rattle.route_defs.specs.Spans.{IsLive}
use Rattle.route_defs.specs.Signals.{IsSignal, first_channel, span_of}
use Rattle.route_defs.specs.Demands.{cells_in}
use Rattle.route_defs.specs.Placed.{row_of, pin_of, output_of, channel_word, track_of}

-- the word of a track that takes a signal: an input at channel 0, a cell at the channel after its column
abbrev pub entry_word : List ℕ → Source → ℕ
entry_word columns Zero = 0
entry_word columns (Pad i) = suc i
entry_word columns (Cell k) = suc (suc (row_of columns k))

-- the word of the track of a signal that is live on channel c: it takes the signal there, or keeps it
abbrev pub held_word : List ℕ → Source → ℕ → ℕ
held_word columns s c = if eqb (first_channel columns s) c then entry_word columns s else 1

-- the word of a pin or an output pad that listens to a signal
abbrev pub tap_word : MappedValue → List ℕ → Source → ℕ
tap_word l tracks Zero = 0
tap_word l tracks (Pad i) = suc (track_of l tracks (Pad i))
tap_word l tracks (Cell k) = suc (track_of l tracks (Cell k))

-- the configuration has these words, and all others are off
pub record HasPlacingWords (l : MappedValue) (columns : List ℕ) (spans : List Span) (tracks : List ℕ) (config : ConfigValue) : Type 0 where
  pub held : (s : Source) (c : ℕ) → IsSignal l s → c ≤ config.geometry.columns
      → IsLive (span_of l spans s) c
      → channel_word config c (track_of l tracks s) ≡ held_word columns s c
  pub free_tracks : (c t : ℕ) → c ≤ config.geometry.columns → t < config.geometry.tracks
      → ((s : Source) → IsSignal l s → IsLive (span_of l spans s) c → track_of l tracks s ≢ t)
      → channel_word config c t ≡ 0
  pub pins : (k pin : ℕ) → k < length l.cells → pin < pin_count config.geometry
      → pin_word config (slice_index columns k) (row_of columns k) pin
      ≡ tap_word l tracks (pin_of (mapped_cell l k) pin)
  pub tables : (k : ℕ) → k < length l.cells
      → table config (slice_index columns k) (row_of columns k)
      ≡ (mapped_cell l k).table % 2 ^ table_bits config.geometry
  pub free_pins : (column row pin : ℕ) → column < config.geometry.columns
      → row < config.geometry.rows → pin < pin_count config.geometry → cells_in columns column ≤ row
      → pin_word config column row pin ≡ 0
  pub free_tables : (column row : ℕ) → column < config.geometry.columns
      → row < config.geometry.rows → cells_in columns column ≤ row → table config column row ≡ 0
  pub outputs : (o : ℕ) → o < config.geometry.output_pads
      → output_word config o ≡ tap_word l tracks (output_of l o)
