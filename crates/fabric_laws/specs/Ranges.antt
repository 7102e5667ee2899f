-- What the words of every configuration keep.
use Rattle.std.specs.Prelude.{◌≡◌, ℕ, ◌+◌, ◌^◌, ◌<◌, ◌≤◌, length}
use Rattle.fabric_defs.specs.declared.limits.TheConstants.{MAX_WORD}
use Rattle.fabric_defs.specs.Geometries.{pin_count, table_bits}
use Rattle.fabric_defs.specs.Layout.{word_count, table_words}
use Rattle.fabric_defs.specs.Configurations.{ConfigValue, first_word, pin_word, table_word, table, track_word, output_word}

-- all words are there, and each is at most what its part allows
pub record HasRanges (config : ConfigValue) : Type 0 where
  pub count : length config.words ≡ word_count config.geometry
  pub first_words : (t : ℕ) → t < config.geometry.tracks
      → first_word config t ≤ config.geometry.input_pads
  pub pin_words : (column row pin : ℕ) → column < config.geometry.columns
      → row < config.geometry.rows → pin < pin_count config.geometry → pin_word config column row pin ≤ config.geometry.tracks
  pub table_words : (column row j : ℕ) → column < config.geometry.columns
      → row < config.geometry.rows → j < table_words config.geometry → table_word config column row j ≤ MAX_WORD
  pub tables : (column row : ℕ) → column < config.geometry.columns → row < config.geometry.rows
      → table config column row < 2 ^ table_bits config.geometry
  pub track_words : (column t : ℕ) → column < config.geometry.columns → t < config.geometry.tracks
      → track_word config column t ≤ config.geometry.rows + 1
  pub output_words : (pad : ℕ) → pad < config.geometry.output_pads
      → output_word config pad ≤ config.geometry.tracks
