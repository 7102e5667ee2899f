-- Where the parts of a configuration stand, as places of words, and how great each word may be. In
-- this order: the tracks of channel 0; for each column its cells, each with its pins and its table,
-- and then the tracks of the channel after it; the output pads.
use Rattle.std.specs.Prelude.{ℕ, ◌+◌, ◌*◌, List, ◌++◌}
use Rattle.fabric_defs.specs.Numbered.{list_of, joined}
use Rattle.fabric_defs.specs.Kinds.{table_words_of}
use Rattle.fabric_defs.specs.Geometries.{GeometryValue, pin_count}
use Rattle.fabric_defs.specs.declared.limits.TheConstants.{MAX_WORD}

-- the words of a table
abbrev pub table_words : GeometryValue → ℕ
table_words g = table_words_of g.kind

-- the words of a cell: its pins, and then its table
abbrev pub cell_words : GeometryValue → ℕ
cell_words g = pin_count g + table_words g

-- the words of a column: its cells, and then the tracks after it
abbrev pub column_words : GeometryValue → ℕ
column_words g = g.rows * cell_words g + g.tracks

-- all words of a configuration
abbrev pub word_count : GeometryValue → ℕ
word_count g = g.tracks + g.columns * column_words g + g.output_pads

-- the place of the first word of a column
abbrev pub column_place : GeometryValue → ℕ → ℕ
column_place g column = g.tracks + column * column_words g

-- the place of the first word of a cell
abbrev pub cell_place : GeometryValue → ℕ → ℕ → ℕ
cell_place g column row = column_place g column + row * cell_words g

-- the place of the first word of a cell's table
abbrev pub table_place : GeometryValue → ℕ → ℕ → ℕ
table_place g column row = cell_place g column row + pin_count g

-- the place of the first word of the channel after a column
abbrev pub channel_place : GeometryValue → ℕ → ℕ
channel_place g column = column_place g column + g.rows * cell_words g

-- the place of the first word of the output pads
abbrev pub output_place : GeometryValue → ℕ
output_place g = column_place g g.columns

-- the greatest values of the words of a cell: a pin is off or listens to a track; the words of a
-- table may be any
abbrev pub cell_limits : GeometryValue → List ℕ
cell_limits g =
    list_of (pin_count g) (λ pin. g.tracks) ++ list_of (table_words g) (λ word. MAX_WORD)

-- the greatest values of the words of a column: after its cells, a track is off, is kept, or takes
-- a cell of the column
abbrev pub column_limits : GeometryValue → List ℕ
column_limits g =
    joined g.rows (λ row. cell_limits g) ++ list_of g.tracks (λ track. g.rows + 1)

-- the greatest values of all words: a track of channel 0 is off or takes an input pad; an output
-- pad is off or listens to a track
abbrev pub limits : GeometryValue → List ℕ
limits g =
    list_of g.tracks (λ track. g.input_pads)
    ++ joined g.columns (λ column. column_limits g)
    ++ list_of g.output_pads (λ pad. g.tracks)
