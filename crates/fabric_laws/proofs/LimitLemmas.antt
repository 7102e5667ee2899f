-- The greatest value of each word of a configuration, by the part of the fabric that the word is
-- for.
use Rattle.std.proofs.Common.{◌≡◌, ℕ, ◌+◌, ◌*◌, ◌^◌, ◌<◌, ◌≤◌, List, ◌++◌, length, get_or, refl, ap, subst, sym, ◌∙◌, arith, length-append}
use Rattle.std.proofs.lemmas.List.{get_or_append_left, get_or-append-add}
use Rattle.std.proofs.lemmas.List.Elements.{AllZip-get_or, length_all_zip}
use Rattle.std.proofs.lemmas.Nat.{mul-add-lt}
use Rattle.std.proofs.Math.Nat.{mul_comm}
use Rattle.fabric_defs.specs.declared.limits.TheConstants.{MAX_WORD, WORD_BITS}
use Rattle.fabric_defs.specs.Numbered.{list_of, joined}
use Rattle.fabric_defs.specs.Geometries.{GeometryValue, pin_count, table_bits}
use Rattle.fabric_defs.specs.Layout.{cell_words, column_words, word_count, column_place, cell_place, table_place, channel_place, output_place, cell_limits, column_limits, limits, table_words}
use Rattle.fabric_defs.specs.Configurations.{ConfigValue, IsConfig, first_word, pin_word, table_word, table_words_at, number_behind, table, track_word, output_word}
use Rattle.fabric_laws.specs.Ranges.{HasRanges}
use Rattle.fabric_laws.proofs.LayoutLemmas.{table_words-bits, cell_place-le, channel_place-le}
use Rattle.fabric_laws.proofs.TableLemmas.{AreWords, number_behind-lt}
use Rattle.fabric_laws.proofs.NumberedLemmas.{length-list_of, get_or-list_of, length-joined, get_or-joined}

-- an element of the second of two lists
get_or-append-at : (xs ys : List ℕ) (n i : ℕ) → length xs ≡ n → get_or (xs ++ ys) (n + i) 0 ≡ get_or ys i 0
get_or-append-at xs ys n i e = ap (λ m. get_or (xs ++ ys) (m + i) 0) (sym e) ∙ get_or-append-add xs ys i 0

-- there is a limit for each word of a cell
length-cell_limits : (g : GeometryValue) → length (cell_limits g) ≡ cell_words g
length-cell_limits g =
    length-append (list_of (pin_count g) (λ pin. g.tracks)) (list_of (table_words g) (λ word. MAX_WORD))
    ∙ omega (arith, length-list_of (pin_count g) (λ pin. g.tracks), length-list_of (table_words g) (λ word. MAX_WORD))

-- the limits of the cells of a column
cells_part : GeometryValue → List ℕ
cells_part g = joined g.rows (λ row. cell_limits g)

-- there is a limit for each word of the cells of a column
length-cells_part : (g : GeometryValue) → length (cells_part g) ≡ g.rows * cell_words g
unfolding cells_part
length-cells_part g = length-joined g.rows (cell_words g) (λ row. cell_limits g) (λ row lt. length-cell_limits g)

-- there is a limit for each word of a column
pub length-column_limits : (g : GeometryValue) → length (column_limits g) ≡ column_words g
unfolding cells_part
length-column_limits g =
    let tracks : length (list_of g.tracks (λ track. g.rows + 1)) ≡ g.tracks = length-list_of g.tracks (λ track. g.rows + 1) in
    length-append (cells_part g) (list_of g.tracks (λ track. g.rows + 1))
    ∙ omega (arith, length-cells_part g)

-- the limits of channel 0
first_part : GeometryValue → List ℕ
first_part g = list_of g.tracks (λ track. g.input_pads)

-- those of all columns
columns_part : GeometryValue → List ℕ
columns_part g = joined g.columns (λ column. column_limits g)

-- and those of the output pads
outputs_part : GeometryValue → List ℕ
outputs_part g = list_of g.output_pads (λ pad. g.tracks)

-- the three parts make up all limits
limits-parts : (g : GeometryValue) → limits g ≡ first_part g ++ columns_part g ++ outputs_part g
unfolding first_part columns_part outputs_part
limits-parts g = refl

-- channel 0 has a word for each track
length-first_part : (g : GeometryValue) → length (first_part g) ≡ g.tracks
unfolding first_part
length-first_part g = length-list_of g.tracks (λ track. g.input_pads)

-- the columns have as many words each
length-columns_part : (g : GeometryValue) → length (columns_part g) ≡ g.columns * column_words g
unfolding columns_part
length-columns_part g = length-joined g.columns (column_words g) (λ column. column_limits g) (λ column lt. length-column_limits g)

-- there is a word for each output pad
length-outputs_part : (g : GeometryValue) → length (outputs_part g) ≡ g.output_pads
unfolding outputs_part
length-outputs_part g = length-list_of g.output_pads (λ pad. g.tracks)

-- the words of the output pads come behind those of the other parts
length-before_outputs : (g : GeometryValue) → length (first_part g ++ columns_part g) ≡ output_place g
length-before_outputs g =
    length-append (first_part g) (columns_part g) ∙ omega (arith, length-first_part g, length-columns_part g)

-- there is a limit for each word
pub length-limits : (g : GeometryValue) → length (limits g) ≡ word_count g
length-limits g =
    ap length (limits-parts g)
    ∙ length-append (first_part g ++ columns_part g) (outputs_part g)
    ∙ omega (arith, length-before_outputs g, length-outputs_part g)

-- the word of a track of channel 0
pub get_or-limits-first : (g : GeometryValue) (t : ℕ) → t < g.tracks → get_or (limits g) t 0 ≡ g.input_pads
unfolding first_part
get_or-limits-first g t lt =
    ap (λ ls. get_or ls t 0) (limits-parts g)
    ∙ get_or_append_left (first_part g ++ columns_part g) (outputs_part g) 0 t
    (omega (arith, length-append (first_part g) (columns_part g), length-first_part g))
    ∙ get_or_append_left (first_part g) (columns_part g) 0 t (omega (arith, length-first_part g))
    ∙ get_or-list_of g.tracks (λ track. g.input_pads) t 0 lt

-- a word of a column
get_or-limits-column : (g : GeometryValue) (column i : ℕ) → column < g.columns → i < column_words g
    → get_or (limits g) (column_place g column + i) 0 ≡ get_or (column_limits g) i 0
unfolding columns_part
get_or-limits-column g column i lt within =
    let below : column * column_words g + i < column_words g * g.columns = mul-add-lt column (column_words g) i g.columns lt within in
    let turned : column_words g * g.columns ≡ g.columns * column_words g = mul_comm (column_words g) g.columns in
    let place : column_place g column + i ≡ g.tracks + (column * column_words g + i) = omega arith in
    ap (λ ls. get_or ls (column_place g column + i) 0) (limits-parts g)
    ∙ get_or_append_left (first_part g ++ columns_part g) (outputs_part g) 0 (column_place g column + i)
    (omega (arith, length-before_outputs g))
    ∙ ap (λ m. get_or (first_part g ++ columns_part g) m 0) place
    ∙ get_or-append-at (first_part g) (columns_part g) g.tracks (column * column_words g + i) (length-first_part g)
    ∙ get_or-joined g.columns (column_words g) (λ column. column_limits g) column i 0
    (λ column lt. length-column_limits g) lt within

-- a word of a cell
get_or-limits-cell : (g : GeometryValue) (column row i : ℕ) → column < g.columns → row < g.rows → i < cell_words g
    → get_or (limits g) (cell_place g column row + i) 0 ≡ get_or (cell_limits g) i 0
unfolding cells_part
get_or-limits-cell g column row i lt inside within =
    let below : row * cell_words g + i < cell_words g * g.rows = mul-add-lt row (cell_words g) i g.rows inside within in
    let turned : cell_words g * g.rows ≡ g.rows * cell_words g = mul_comm (cell_words g) g.rows in
    let place : cell_place g column row + i ≡ column_place g column + (row * cell_words g + i) = omega arith in
    ap (λ m. get_or (limits g) m 0) place
    ∙ get_or-limits-column g column (row * cell_words g + i) lt (omega arith)
    ∙ get_or_append_left (cells_part g) (list_of g.tracks (λ track. g.rows + 1)) 0 (row * cell_words g + i)
    (omega (arith, length-cells_part g))
    ∙ get_or-joined g.rows (cell_words g) (λ row. cell_limits g) row i 0 (λ row lt. length-cell_limits g) inside within

-- the word of a pin
pub get_or-limits-pin : (g : GeometryValue) (column row pin : ℕ) → column < g.columns → row < g.rows → pin < pin_count g
    → get_or (limits g) (cell_place g column row + pin) 0 ≡ g.tracks
get_or-limits-pin g column row pin lt inside below =
    get_or-limits-cell g column row pin lt inside (omega arith)
    ∙ get_or_append_left (list_of (pin_count g) (λ pin. g.tracks)) (list_of (table_words g) (λ word. MAX_WORD)) 0 pin
    (omega (arith, length-list_of (pin_count g) (λ pin. g.tracks)))
    ∙ get_or-list_of (pin_count g) (λ pin. g.tracks) pin 0 below

-- a word of the table of a cell
pub get_or-limits-table : (g : GeometryValue) (column row j : ℕ) → column < g.columns → row < g.rows → j < table_words g
    → get_or (limits g) (table_place g column row + j) 0 ≡ MAX_WORD
get_or-limits-table g column row j lt inside below =
    let place : table_place g column row + j ≡ cell_place g column row + (pin_count g + j) = omega arith in
    ap (λ m. get_or (limits g) m 0) place
    ∙ get_or-limits-cell g column row (pin_count g + j) lt inside (omega arith)
    ∙ get_or-append-at (list_of (pin_count g) (λ pin. g.tracks)) (list_of (table_words g) (λ word. MAX_WORD)) (pin_count g) j
    (length-list_of (pin_count g) (λ pin. g.tracks))
    ∙ get_or-list_of (table_words g) (λ word. MAX_WORD) j 0 below

-- the word of a track of the channel after a column
pub get_or-limits-track : (g : GeometryValue) (column t : ℕ) → column < g.columns → t < g.tracks
    → get_or (limits g) (channel_place g column + t) 0 ≡ g.rows + 1
unfolding cells_part
get_or-limits-track g column t lt inside =
    let place : channel_place g column + t ≡ column_place g column + (g.rows * cell_words g + t) = omega arith in
    ap (λ m. get_or (limits g) m 0) place
    ∙ get_or-limits-column g column (g.rows * cell_words g + t) lt (omega arith)
    ∙ get_or-append-at (cells_part g) (list_of g.tracks (λ track. g.rows + 1)) (g.rows * cell_words g) t (length-cells_part g)
    ∙ get_or-list_of g.tracks (λ track. g.rows + 1) t 0 inside

-- the word of an output pad
pub get_or-limits-output : (g : GeometryValue) (pad : ℕ) → pad < g.output_pads
    → get_or (limits g) (output_place g + pad) 0 ≡ g.tracks
unfolding outputs_part
get_or-limits-output g pad lt =
    ap (λ ls. get_or ls (output_place g + pad) 0) (limits-parts g)
    ∙ get_or-append-at (first_part g ++ columns_part g) (outputs_part g) (output_place g) pad (length-before_outputs g)
    ∙ get_or-list_of g.output_pads (λ pad. g.tracks) pad 0 lt

-- a configuration has as many words as there are limits
pub length-words : (k : ConfigValue) → IsConfig k → length k.words ≡ word_count k.geometry
length-words k h =
    sym (length_all_zip (λ limit word. word ≤ limit) (limits k.geometry) k.words h.words) ∙ length-limits k.geometry

-- each word is at most the limit at its place
pub word_within : (k : ConfigValue) (place limit : ℕ) → IsConfig k → place < word_count k.geometry
    → get_or (limits k.geometry) place 0 ≡ limit → get_or k.words place 0 ≤ limit
word_within k place limit h lt e =
    let le : get_or k.words place 0 ≤ get_or (limits k.geometry) place 0 =
    AllZip-get_or (λ limit word. word ≤ limit) (limits k.geometry) k.words place 0 0 h.words (omega (arith, length-limits k.geometry)) in
    omega arith

-- a track of channel 0 is off or takes an input pad
pub first_word-le : (k : ConfigValue) (t : ℕ) → IsConfig k → t < k.geometry.tracks → first_word k t ≤ k.geometry.input_pads
first_word-le k t h lt = word_within k t k.geometry.input_pads h (omega arith) (get_or-limits-first k.geometry t lt)

-- a pin is off or listens to a track
pub pin_word-le : (k : ConfigValue) (column row pin : ℕ) → IsConfig k → column < k.geometry.columns → row < k.geometry.rows
    → pin < pin_count k.geometry → pin_word k column row pin ≤ k.geometry.tracks
pin_word-le k column row pin h lt inside within =
    word_within k (cell_place k.geometry column row + pin) k.geometry.tracks h
    (omega (arith, cell_place-le k.geometry column row inside, channel_place-le k.geometry column lt))
    (get_or-limits-pin k.geometry column row pin lt inside within)

-- a word of a table may be any word
pub table_word-le : (k : ConfigValue) (column row j : ℕ) → IsConfig k → column < k.geometry.columns → row < k.geometry.rows
    → j < table_words k.geometry → table_word k column row j ≤ MAX_WORD
table_word-le k column row j h lt inside within =
    word_within k (table_place k.geometry column row + j) MAX_WORD h
    (omega (arith, cell_place-le k.geometry column row inside, channel_place-le k.geometry column lt))
    (get_or-limits-table k.geometry column row j lt inside within)

-- a table has no more bits than its cell needs
pub table-lt : (k : ConfigValue) (column row : ℕ) → IsConfig k → column < k.geometry.columns → row < k.geometry.rows
    → table k column row < 2 ^ table_bits k.geometry
table-lt k column row h lt inside =
    let words : List ℕ = table_words_at k column row in
    let count : length words ≡ table_words k.geometry = length-list_of (table_words k.geometry) (table_word k column row) in
    let are_words : AreWords words = λ j below. let within : j < table_words k.geometry = omega arith in
    let read : get_or words j 0 ≡ table_word k column row j = get_or-list_of (table_words k.geometry) (table_word k column row) j 0 within in
    omega (arith, table_word-le k column row j h lt inside within) in
    let size : WORD_BITS * length words ≡ table_bits k.geometry = ap (λ n. WORD_BITS * n) count ∙ table_words-bits k.geometry.kind in
    let below : number_behind 0 words < (0 + 1) * 2 ^ (WORD_BITS * length words) = number_behind-lt 0 words are_words in
    let P : ℕ → Type 0 = λ n. number_behind 0 words < 2 ^ n in
    subst P size (omega arith)

-- a track is off, kept, or takes a cell of the column
pub track_word-le : (k : ConfigValue) (column t : ℕ) → IsConfig k → column < k.geometry.columns → t < k.geometry.tracks
    → track_word k column t ≤ k.geometry.rows + 1
track_word-le k column t h lt inside =
    word_within k (channel_place k.geometry column + t) (k.geometry.rows + 1) h
    (omega (arith, channel_place-le k.geometry column lt))
    (get_or-limits-track k.geometry column t lt inside)

-- an output pad is off or listens to a track
pub output_word-le : (k : ConfigValue) (pad : ℕ) → IsConfig k → pad < k.geometry.output_pads → output_word k pad ≤ k.geometry.tracks
output_word-le k pad h lt =
    word_within k (output_place k.geometry + pad) k.geometry.tracks h (omega arith) (get_or-limits-output k.geometry pad lt)

-- all this in one
pub has_ranges : (k : ConfigValue) → IsConfig k → HasRanges k
has_ranges k h = record {
  count = length-words k h;
  first_words = λ t lt. first_word-le k t h lt;
  pin_words = λ column row pin lt inside within. pin_word-le k column row pin h lt inside within;
  table_words = λ column row j lt inside within. table_word-le k column row j h lt inside within;
  tables = λ column row lt inside. table-lt k column row h lt inside;
  track_words = λ column t lt inside. track_word-le k column t h lt inside;
  output_words = λ pad lt. output_word-le k pad h lt;
}
