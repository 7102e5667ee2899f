-- The numbers of a fabric, and the kind of its cells: columns of rows of cells, a channel of tracks
-- before each column and after the last one, and pads for inputs and outputs.
use Rattle.std.specs.Prelude.{ℕ, ◌+◌, ◌*◌, ◌^◌, ◌≤◌}
use Rattle.fabric_defs.specs.declared.limits.TheConstants.{MAX_SIDE, MAX_TRACKS}
use Rattle.fabric_defs.specs.declared.kind.CellKind.{CellKind}
use Rattle.fabric_defs.specs.Kinds.{pins_of}

-- a kind of cells, and how many there are of each part
pub record GeometryValue : Type 0 where
  pub kind : CellKind
  pub columns : ℕ
  pub rows : ℕ
  pub tracks : ℕ
  pub input_pads : ℕ
  pub output_pads : ℕ

-- there is at least one of each part, and no more than its limit
pub record IsGeometry (g : GeometryValue) : Type 0 where
  pub some_columns : 1 ≤ g.columns
  pub columns : g.columns ≤ MAX_SIDE
  pub some_rows : 1 ≤ g.rows
  pub rows : g.rows ≤ MAX_SIDE
  pub some_tracks : 1 ≤ g.tracks
  pub tracks : g.tracks ≤ MAX_TRACKS
  pub some_input_pads : 1 ≤ g.input_pads
  pub input_pads : g.input_pads ≤ MAX_SIDE
  pub some_output_pads : 1 ≤ g.output_pads
  pub output_pads : g.output_pads ≤ MAX_SIDE

-- the pins of a cell
abbrev pub pin_count : GeometryValue → ℕ
pin_count g = pins_of g.kind

-- the bits of a cell's table: one for each list of bits at its pins
abbrev pub table_bits : GeometryValue → ℕ
table_bits g = 2 ^ pin_count g

-- all cells of the fabric
abbrev pub cell_count : GeometryValue → ℕ
cell_count g = g.columns * g.rows

-- cells are numbered down each column
abbrev pub cell_number : GeometryValue → ℕ → ℕ → ℕ
cell_number g column row = column * g.rows + row
