-- The cells that matter to the output pads: the least set that has the cells to which output pads
-- listen and the cells to which the pins of its members listen.
use Rattle.std.specs.Prelude.{◌≡◌, ℕ, ◌<◌, Bool, true, false, List, length, slice_index_or}
use Rattle.clause_defs.specs.Clauses.{Has}
use Rattle.fabric_defs.specs.Geometries.{cell_count}
use Rattle.cell_defs.specs.declared.source.Source.TheVariants.{Cell}
use Rattle.cell_defs.specs.Cells.{CellsValue, cell_at}

-- whether cell k is in the cone
abbrev pub in_cone : CellsValue → ℕ → Bool
in_cone cells k = slice_index_or cells.cone k false

-- the same cells, with another cone
abbrev pub with_cone : CellsValue → List Bool → CellsValue
with_cone cells cone = record cells { cone = cone }

-- a set of cells, told by a test, that has all to which the output pads and its members listen
pub record IsClosed (cells : CellsValue) (set : ℕ → Bool) : Type 0 where
  pub outputs : (k : ℕ) → Has cells.outputs (Cell k) → set k ≡ true
  pub pins : (m k : ℕ) → m < length cells.cells → set m ≡ true → Has (cell_at cells m).pins (Cell k)
      → set k ≡ true

-- the least of these sets
pub record IsCone (cells : CellsValue) (set : ℕ → Bool) : Type 0 where
  pub closed : IsClosed cells set
  pub least : (other : ℕ → Bool) → IsClosed cells other → (k : ℕ) → set k ≡ true → other k ≡ true

-- it is said of each cell whether it is in the cone, and what is said is right
pub record HasCone (cells : CellsValue) : Type 0 where
  pub count : length cells.cone ≡ cell_count cells.geometry
  pub cone : IsCone cells (in_cone cells)
