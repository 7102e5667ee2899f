-- The bits of a configured fabric, where its input pads have the bits x, as equations that hold all
-- at once. No order of evaluation is named.
use Rattle.std.specs.Prelude.{◌≡◌, ℕ, zero, suc, ◌+◌, ◌<◌, ◌≤◌, List, [], length, slice_index, slice_index_or}
use Rattle.std.specs.Int.{bit_at}
use Rattle.pch_base.specs.BitLists.{word_of}
use Rattle.fabric_defs.specs.Numbered.{list_of}
use Rattle.fabric_defs.specs.Geometries.{GeometryValue, pin_count, cell_count, cell_number}
use Rattle.fabric_defs.specs.Configurations.{ConfigValue, first_word, pin_word, table, track_word, output_word}

-- a bit for each track of each channel, for each pin of each cell, and for each cell
pub record Wiring : Type 0 where
  pub channels : List (List ℕ)
  pub pins : List (List ℕ)
  pub cells : List ℕ

-- the bits of the tracks of a channel
abbrev pub channel : Wiring → ℕ → List ℕ
channel w c = slice_index_or w.channels c []

-- the bits of the pins of a cell
abbrev pub cell_pins : Wiring → ℕ → List ℕ
cell_pins w cell = slice_index_or w.pins cell []

-- off reads 0, and p + 1 the bit of input pad p, which is 0 past the bits of x
abbrev pub pad_bit : List ℕ → ℕ → ℕ
pad_bit x zero = 0
pad_bit x (suc p) = slice_index_or x p 0

-- off reads 0, and t + 1 the bit of track t of the channel
abbrev pub tapped_bit : List ℕ → ℕ → ℕ
tapped_bit tracks zero = 0
tapped_bit tracks (suc t) = slice_index_or tracks t 0

-- off reads 0; 1 keeps the bit before; r + 2 reads the bit of the cell in row r
abbrev pub switched_bit : ℕ → (ℕ → ℕ) → ℕ → ℕ
switched_bit before row_bit zero = 0
switched_bit before row_bit (suc zero) = before
switched_bit before row_bit (suc (suc r)) = row_bit r

-- bit k of the table, where bit j of k is the bit of pin j
abbrev pub table_bit : ℕ → List ℕ → ℕ
table_bit bits pin_bits = bit_at bits (word_of pin_bits)

-- there are as many bits as the geometry has tracks, pins and cells
pub record IsShaped (g : GeometryValue) (w : Wiring) : Type 0 where
  pub channels : length w.channels ≡ g.columns + 1
  pub tracks : (c : ℕ) → c ≤ g.columns → length (channel w c) ≡ g.tracks
  pub pin_lists : length w.pins ≡ cell_count g
  pub pins : (k : ℕ) → k < cell_count g → length (cell_pins w k) ≡ pin_count g
  pub cells : length w.cells ≡ cell_count g

-- the bits that these words and these bits of the input pads give, all at once
pub record Wired (config : ConfigValue) (x : List ℕ) (w : Wiring) : Type 0 where
  pub shape : IsShaped config.geometry w
  pub first_channel : (t : ℕ) → t < config.geometry.tracks
      → slice_index (channel w 0) t ≡ pad_bit x (first_word config t)
  pub pins : (column row pin : ℕ) → column < config.geometry.columns → row < config.geometry.rows
      → pin < pin_count config.geometry
      → slice_index (cell_pins w (cell_number config.geometry column row)) pin
      ≡ tapped_bit (channel w column) (pin_word config column row pin)
  pub cells : (column row : ℕ) → column < config.geometry.columns → row < config.geometry.rows
      → slice_index w.cells (cell_number config.geometry column row)
      ≡ table_bit (table config column row) (cell_pins w (cell_number config.geometry column row))
  pub next_channels : (column t : ℕ) → column < config.geometry.columns → t < config.geometry.tracks
      → slice_index (channel w (column + 1)) t
      ≡ switched_bit (slice_index (channel w column) t)
      (λ row. slice_index w.cells (cell_number config.geometry column row))
      (track_word config column t)

-- the bits of the output pads: off reads 0, else the track of the last channel
abbrev pub pad_bits : ConfigValue → Wiring → List ℕ
pad_bits config w =
    list_of config.geometry.output_pads
    (λ pad. tapped_bit (channel w config.geometry.columns) (output_word config pad))

-- where the input pads have the bits x, the output pads have the bits y
abbrev pub FabOut : ConfigValue → List ℕ → List ℕ → Type 0
FabOut config x y = (w : Wiring) × Wired config x w × (y ≡ pad_bits config w)

-- and this cell has the bit b
abbrev pub CellBit : ConfigValue → List ℕ → ℕ → ℕ → Type 0
CellBit config x cell b = (w : Wiring) × Wired config x w × (b ≡ slice_index w.cells cell)
