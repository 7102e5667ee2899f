-- The kinds of cells. A kind has a number of pins, and a table with a bit for each list of bits at
-- the pins.
use Rattle.std.specs.Prelude.{ℕ}
use Rattle.fabric_defs.specs.declared.kind.CellKind.{CellKind}
use Rattle.fabric_defs.specs.declared.kind.CellKind.TheVariants.{FourInputs, SixInputs}

-- the number by which formats call a kind
abbrev pub kind_number : CellKind → ℕ
kind_number FourInputs = 1
kind_number SixInputs = 2

-- the pins of a cell
abbrev pub pins_of : CellKind → ℕ
pins_of FourInputs = 4
pins_of SixInputs = 6

-- the words of a cell's table
abbrev pub table_words_of : CellKind → ℕ
table_words_of FourInputs = 1
table_words_of SixInputs = 4
