-- The sizes and places of the parts of a configuration, whatever the kind of its cells is.
use Rattle.std.proofs.Common.{◌≡◌, ℕ, ◌+◌, ◌*◌, ◌^◌, ◌<◌, ◌≤◌, refl, arith}
use Rattle.std.proofs.lemmas.Nat.{mul-add-lt, mul-le, row_fits}
use Rattle.std.proofs.Math.Nat.{mul_comm}
use Rattle.fabric_defs.specs.declared.kind.CellKind.{CellKind}
use Rattle.fabric_defs.specs.declared.kind.CellKind.TheVariants.{FourInputs, SixInputs}
use Rattle.fabric_defs.specs.declared.limits.TheConstants.{MAX_SIDE, MAX_TRACKS, MAX_PINS, MAX_CELL_WORDS, WORD_BITS}
use Rattle.fabric_defs.specs.Kinds.{pins_of, table_words_of}
use Rattle.fabric_defs.specs.Geometries.{GeometryValue, IsGeometry, cell_count, cell_number}
use Rattle.fabric_defs.specs.Layout.{cell_words, column_words, word_count, column_place, cell_place, table_place, channel_place, output_place, table_words}

-- a table has a bit for each list of bits at the pins of its cell
pub table_words-bits : (kind : CellKind) → WORD_BITS * table_words_of kind ≡ 2 ^ pins_of kind
table_words-bits FourInputs = refl
table_words-bits SixInputs = refl

-- a cell has a pin at least
pub some_pins : (kind : CellKind) → 1 ≤ pins_of kind
some_pins FourInputs = omega arith
some_pins SixInputs = omega arith

-- and its table a word
pub some_table_words : (kind : CellKind) → 1 ≤ table_words_of kind
some_table_words FourInputs = omega arith
some_table_words SixInputs = omega arith

-- no kind has more pins
pub pins_of-le : (kind : CellKind) → pins_of kind ≤ MAX_PINS
pins_of-le FourInputs = omega arith
pins_of-le SixInputs = omega arith

-- nor more words of a cell
kind_words-le : (kind : CellKind) → pins_of kind + table_words_of kind ≤ MAX_CELL_WORDS
kind_words-le FourInputs = omega arith
kind_words-le SixInputs = omega arith

-- so for the cells of a fabric
pub cell_words-le : (g : GeometryValue) → cell_words g ≤ MAX_CELL_WORDS
cell_words-le g = kind_words-le g.kind

-- the words of the cells of a column, at most
pub column_cells-le : (g : GeometryValue) → IsGeometry g → g.rows * cell_words g ≤ MAX_SIDE * MAX_CELL_WORDS
column_cells-le g h = mul-le g.rows (cell_words g) MAX_SIDE MAX_CELL_WORDS h.rows (cell_words-le g)

-- and those of all columns
pub columns-le : (g : GeometryValue) → IsGeometry g
    → g.columns * column_words g ≤ MAX_SIDE * (MAX_SIDE * MAX_CELL_WORDS + MAX_TRACKS)
columns-le g h =
    mul-le g.columns (column_words g) MAX_SIDE (MAX_SIDE * MAX_CELL_WORDS + MAX_TRACKS) h.columns
    (omega (arith, column_cells-le g h, h.tracks))

-- places of words are numbers of 16 bits
pub word_count-lt : (g : GeometryValue) → IsGeometry g → word_count g < 2 ^ WORD_BITS
word_count-lt g h = omega (arith, columns-le g h, h.tracks, h.output_pads)

-- cells are few
pub cell_count-le : (g : GeometryValue) → IsGeometry g → cell_count g ≤ MAX_SIDE * MAX_SIDE
cell_count-le g h = mul-le g.columns g.rows MAX_SIDE MAX_SIDE h.columns h.rows

-- numbers of cells are below the count
pub cell_number-lt : (g : GeometryValue) (column row : ℕ) → column < g.columns → row < g.rows → cell_number g column row < cell_count g
cell_number-lt g column row lt within =
    omega (arith, mul-add-lt column g.rows row g.columns lt within, mul_comm g.rows g.columns)

-- the next column begins after the channel
pub column_place-more : (g : GeometryValue) (column : ℕ) → column_place g (column + 1) ≡ channel_place g column + g.tracks
column_place-more g column = grind arith

-- the next cell begins after the words of this one
pub cell_place-more : (g : GeometryValue) (column row : ℕ) → cell_place g column (row + 1) ≡ cell_place g column row + cell_words g
cell_place-more g column row = grind arith

-- a table ends where the words of its cell do
pub table_place-end : (g : GeometryValue) (column row : ℕ) → table_place g column row + table_words g ≡ cell_place g column row + cell_words g
table_place-end g column row = omega arith

-- the cells of a column stand before the channel after it
pub cell_place-le : (g : GeometryValue) (column row : ℕ) → row < g.rows → cell_place g column row + cell_words g ≤ channel_place g column
cell_place-le g column row lt = omega (arith, row_fits row (cell_words g) g.rows (cell_words g) lt (omega arith))

-- a column begins at the output pads or before them
pub column_place-le : (g : GeometryValue) (column : ℕ) → column ≤ g.columns → column_place g column ≤ output_place g
column_place-le g column le = omega (arith, mul-le column (column_words g) g.columns (column_words g) le (omega arith))

-- and ends there or before them
pub channel_place-le : (g : GeometryValue) (column : ℕ) → column < g.columns → channel_place g column + g.tracks ≤ output_place g
channel_place-le g column lt = omega (arith, row_fits column (column_words g) g.columns (column_words g) lt (omega arith))

-- the output pads are the last
pub output_place-end : (g : GeometryValue) → output_place g + g.output_pads ≡ word_count g
output_place-end g = omega arith
