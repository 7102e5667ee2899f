-- The words of each part of a configuration: they are there, they stand one after another, and none
-- is above what its part allows.
use Rattle.std.proofs.Common.{◌≡◌, ℕ, ◌+◌, ◌-◌, ◌<◌, ◌≤◌, List, length, take, drop, get_or, All, ◌∙◌, arith, length-drop}
use Rattle.std.specs.List.{slice_range}
use Rattle.std.proofs.lemmas.List.{length-take, length-take-le, get_or-take, get_or-drop}
use Rattle.fabric_defs.specs.Numbered.{list_of}
use Rattle.fabric_defs.specs.Geometries.{pin_count}
use Rattle.fabric_defs.specs.Layout.{table_words, cell_place, table_place, channel_place, output_place}
use Rattle.fabric_defs.specs.Configurations.{ConfigValue, IsConfig, first_word, pin_word, track_word, output_word, first_words, pin_words, table_words_at, track_words, output_words}
use Rattle.fabric_laws.proofs.NumberedLemmas.{list_of_elements, All-list_of}
use Rattle.fabric_laws.proofs.LayoutLemmas.{cell_place-le, channel_place-le}
use Rattle.fabric_laws.proofs.LimitLemmas.{length-words, first_word-le, pin_word-le, track_word-le, output_word-le}

-- a run of words by place
pub range_is : (words : List ℕ) (from count : ℕ) → from + count ≤ length words
    → slice_range words from (from + count) ≡ list_of count (λ i. get_or words (from + i) 0)
range_is words from count fits =
    let run : List ℕ = slice_range words from (from + count) in
    let long : length run ≡ count = omega (arith, length-take (from + count - from) (drop from words), length-drop from words) in
    list_of_elements count (λ i. get_or words (from + i) 0) run 0 long
    (λ i lt. get_or-take (from + count - from) (drop from words) i 0 (omega arith) ∙ get_or-drop from words i 0)

-- the words of channel 0 are there
pub first_words-within : (k : ConfigValue) → IsConfig k → k.geometry.tracks ≤ length k.words
first_words-within k h = omega (arith, length-words k h)

-- so are those of a cell's pins
pub pin_words-within : (k : ConfigValue) (column row : ℕ) → IsConfig k → column < k.geometry.columns → row < k.geometry.rows
    → cell_place k.geometry column row + pin_count k.geometry ≤ length k.words
pin_words-within k column row h lt inside =
    omega (arith, length-words k h, cell_place-le k.geometry column row inside, channel_place-le k.geometry column lt)

-- those of its table
pub table_words-within : (k : ConfigValue) (column row : ℕ) → IsConfig k → column < k.geometry.columns → row < k.geometry.rows
    → table_place k.geometry column row + table_words k.geometry ≤ length k.words
table_words-within k column row h lt inside =
    omega (arith, length-words k h, cell_place-le k.geometry column row inside, channel_place-le k.geometry column lt)

-- those of the channel after a column
pub track_words-within : (k : ConfigValue) (column : ℕ) → IsConfig k → column < k.geometry.columns
    → channel_place k.geometry column + k.geometry.tracks ≤ length k.words
track_words-within k column h lt = omega (arith, length-words k h, channel_place-le k.geometry column lt)

-- and those of the output pads, which are the last
pub output_words-end : (k : ConfigValue) → IsConfig k → output_place k.geometry + k.geometry.output_pads ≡ length k.words
output_words-end k h = omega (arith, length-words k h)

-- the words of channel 0, which are the first
pub first_words-take : (k : ConfigValue) → IsConfig k → take k.geometry.tracks k.words ≡ first_words k
first_words-take k h =
    let n : ℕ = k.geometry.tracks in
    list_of_elements n (first_word k) (take n k.words) 0
    (length-take-le n k.words (first_words-within k h)) (λ i lt. get_or-take n k.words i 0 lt)

-- the words of a cell's pins
pub pin_words-range : (k : ConfigValue) (column row : ℕ) → IsConfig k → column < k.geometry.columns → row < k.geometry.rows
    → slice_range k.words (cell_place k.geometry column row) (cell_place k.geometry column row + pin_count k.geometry) ≡ pin_words k column row
pin_words-range k column row h lt inside =
    range_is k.words (cell_place k.geometry column row) (pin_count k.geometry) (pin_words-within k column row h lt inside)

-- those of its table
pub table_words-range : (k : ConfigValue) (column row : ℕ) → IsConfig k → column < k.geometry.columns → row < k.geometry.rows
    → slice_range k.words (table_place k.geometry column row) (table_place k.geometry column row + table_words k.geometry)
    ≡ table_words_at k column row
table_words-range k column row h lt inside =
    range_is k.words (table_place k.geometry column row) (table_words k.geometry) (table_words-within k column row h lt inside)

-- those of the channel after a column
pub track_words-range : (k : ConfigValue) (column : ℕ) → IsConfig k → column < k.geometry.columns
    → slice_range k.words (channel_place k.geometry column) (channel_place k.geometry column + k.geometry.tracks) ≡ track_words k column
track_words-range k column h lt =
    range_is k.words (channel_place k.geometry column) k.geometry.tracks (track_words-within k column h lt)

-- those of the output pads, which are the last
pub output_words-drop : (k : ConfigValue) → IsConfig k → drop (output_place k.geometry) k.words ≡ output_words k
output_words-drop k h =
    let place : ℕ = output_place k.geometry in
    list_of_elements k.geometry.output_pads (output_word k) (drop place k.words) 0
    (omega (arith, length-drop place k.words, output_words-end k h)) (λ i lt. get_or-drop place k.words i 0)

-- each track of channel 0 is off or takes an input pad
pub first_words-le : (k : ConfigValue) → IsConfig k → All (λ word. word ≤ k.geometry.input_pads) (first_words k)
first_words-le k h = All-list_of (λ word. word ≤ k.geometry.input_pads) k.geometry.tracks (first_word k) (λ t lt. first_word-le k t h lt)

-- each pin is off or listens to a track
pub pin_words-le : (k : ConfigValue) (column row : ℕ) → IsConfig k → column < k.geometry.columns → row < k.geometry.rows
    → All (λ word. word ≤ k.geometry.tracks) (pin_words k column row)
pin_words-le k column row h lt inside =
    All-list_of (λ word. word ≤ k.geometry.tracks) (pin_count k.geometry) (pin_word k column row)
    (λ pin within. pin_word-le k column row pin h lt inside within)

-- each track after a column is off, kept, or takes a cell of the column
pub track_words-le : (k : ConfigValue) (column : ℕ) → IsConfig k → column < k.geometry.columns
    → All (λ word. word ≤ k.geometry.rows + 1) (track_words k column)
track_words-le k column h lt =
    All-list_of (λ word. word ≤ k.geometry.rows + 1) k.geometry.tracks (track_word k column)
    (λ t within. track_word-le k column t h lt within)

-- each output pad is off or listens to a track
pub output_words-le : (k : ConfigValue) → IsConfig k → All (λ word. word ≤ k.geometry.tracks) (output_words k)
output_words-le k h =
    All-list_of (λ word. word ≤ k.geometry.tracks) k.geometry.output_pads (output_word k) (λ pad lt. output_word-le k pad h lt)
