-- Configurations: the words of a fabric, each in its range, what they say of each part, and the
-- bytes that spell them.
use Rattle.std.specs.Prelude.{◌≡◌, ◌≢◌, ℕ, ◌+◌, ◌*◌, ◌^◌, ◌<◌, ◌≤◌, List, [], ◌∷◌, length, slice_index, Result, Ok, Err}
use Rattle.std.specs.List.{AllZip}
use Rattle.fabric_defs.specs.Numbered.{list_of}
use Rattle.fabric_defs.specs.Geometries.{GeometryValue, IsGeometry, pin_count}
use Rattle.fabric_defs.specs.Layout.{word_count, table_words, cell_place, table_place, channel_place, output_place, limits}
use Rattle.fabric_defs.specs.declared.limits.TheConstants.{WORD_BITS}
use Rattle.fabric_defs.specs.declared.faults.ConfigError.{ConfigError}
use Rattle.fabric_defs.specs.declared.faults.ConfigError.TheVariants.{Length, Selector, NoMemory}

-- a fabric, and the words that configure it
pub record ConfigValue : Type 0 where
  pub geometry : GeometryValue
  pub words : List ℕ

-- the word of track t of channel 0
abbrev pub first_word : ConfigValue → ℕ → ℕ
first_word config t = slice_index config.words t

-- the word of a pin of the cell at a column and a row
abbrev pub pin_word : ConfigValue → ℕ → ℕ → ℕ → ℕ
pin_word config column row pin =
    slice_index config.words (cell_place config.geometry column row + pin)

-- word j of the table of the cell at a column and a row
abbrev pub table_word : ConfigValue → ℕ → ℕ → ℕ → ℕ
table_word config column row j =
    slice_index config.words (table_place config.geometry column row + j)

-- the word of track t of the channel after a column
abbrev pub track_word : ConfigValue → ℕ → ℕ → ℕ
track_word config column t = slice_index config.words (channel_place config.geometry column + t)

-- the word of an output pad
abbrev pub output_word : ConfigValue → ℕ → ℕ
output_word config pad = slice_index config.words (output_place config.geometry + pad)

-- the words of channel 0
abbrev pub first_words : ConfigValue → List ℕ
first_words config = list_of config.geometry.tracks (first_word config)

-- the words of the pins of the cell at a column and a row
abbrev pub pin_words : ConfigValue → ℕ → ℕ → List ℕ
pin_words config column row = list_of (pin_count config.geometry) (pin_word config column row)

-- the words of its table
abbrev pub table_words_at : ConfigValue → ℕ → ℕ → List ℕ
table_words_at config column row =
    list_of (table_words config.geometry) (table_word config column row)

-- the words of the channel after a column
abbrev pub track_words : ConfigValue → ℕ → List ℕ
track_words config column = list_of config.geometry.tracks (track_word config column)

-- the words of the output pads
abbrev pub output_words : ConfigValue → List ℕ
output_words config = list_of config.geometry.output_pads (output_word config)

-- the number that words spell behind n, the most significant word first
abbrev pub number_behind : ℕ → List ℕ → ℕ
number_behind n [] = n
number_behind n (w ∷ ws) = number_behind (n * 2 ^ WORD_BITS + w) ws

-- the table of the cell at a column and a row, whose bits count from the least significant one
abbrev pub table : ConfigValue → ℕ → ℕ → ℕ
table config column row = number_behind 0 (table_words_at config column row)

-- every word is there, and in its range
pub record IsConfig (config : ConfigValue) : Type 0 where
  pub geometry : IsGeometry config.geometry
  pub words : AllZip (λ limit word. word ≤ limit) (limits config.geometry) config.words

-- the word at this place is the first that is above its limit
pub record IsFirstAbove (most words : List ℕ) (place : ℕ) : Type 0 where
  pub within : place < length most
  pub here : slice_index most place < slice_index words place
  pub earlier : (i : ℕ) → i < place → slice_index words i ≤ slice_index most i

-- The configuration of these words, or its first fault: so many bytes in place of those that the
-- geometry wants, or else the byte at which the first word out of its range begins.
abbrev pub ConfigOf : GeometryValue → ℕ → List ℕ → Result ConfigValue ConfigError → Type 0
ConfigOf g bytes words (Ok config) =
    (bytes ≡ 2 * word_count g) × IsConfig config × (config ≡ record { geometry = g; words = words })
ConfigOf g bytes words (Err (Length want found)) =
    (bytes ≢ 2 * word_count g) × (want ≡ 2 * word_count g) × (found ≡ bytes)
ConfigOf g bytes words (Err (Selector at)) =
    (bytes ≡ 2 * word_count g) × (place : ℕ) × (at ≡ 2 * place)
    × IsFirstAbove (limits g) words place
ConfigOf g bytes words (Err NoMemory) = ⊥
