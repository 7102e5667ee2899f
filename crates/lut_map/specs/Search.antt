-- How far the search for the columns of cells has come.
use Rattle.std.specs.Prelude.{◌≡◌, ℕ, ◌+◌, ◌*◌, ◌<◌, max, Bool, true, false, ⊤, List, [], ◌∷◌, length, count_by, slice_index, slice_index_or, Contains}
use Rattle.clause_defs.specs.Clauses.{Has}
use Rattle.cell_defs.specs.declared.source.Source.{Source}
use Rattle.cell_defs.specs.declared.source.Source.TheVariants.{Zero, Pad, Cell}
use Rattle.cell_defs.specs.Cells.{CellValue}
use Rattle.extract.specs.CellLists.{listed_cell}
use Rattle.map_defs.specs.declared.limits.TheConstants.{MAX_COUNT}
use Rattle.map_defs.specs.Mapped.{MappedValue}
use Rattle.map_defs.specs.Columns.{AreColumns}
use Rattle.lut_map.specs.Kept.{luts_of}
use Rattle.lut_map.specs.declared.columns.State.{State}
use Rattle.lut_map.specs.declared.columns.State.TheVariants.{New, Open, Done}
use Rattle.lut_map.specs.declared.columns.Next.{Next}
use Rattle.lut_map.specs.declared.columns.Next.TheVariants.{Wait, Column}

-- these cells without inputs and outputs, of which no column speaks
abbrev pub only_cells : List CellValue → MappedValue
only_cells cells = luts_of 0 cells []

-- a source that is no cell, or a cell with a number below `end`
abbrev pub IsCellBelow : ℕ → Source → Type 0
IsCellBelow end Zero = ⊤
IsCellBelow end (Pad p) = ⊤
IsCellBelow end (Cell k) = k < end

-- cells of a list that have columns; none listens to a cell that isn't in the list
pub record HaveColumns (cells : List CellValue) : Type 0 where
  pub few : length cells < MAX_COUNT
  pub within : (k j : ℕ) → k < length cells → Has (listed_cell cells k).pins (Cell j) → j < length cells
  pub found : (columns : List ℕ) × AreColumns (only_cells cells) columns

-- the state of cell k
abbrev pub state_at : List State → ℕ → State
state_at states k = slice_index_or states k New

-- the cell wasn't met yet
abbrev pub is_new : State → Bool
is_new New = true
is_new Open = false
is_new (Done column) = false

-- its column is known
abbrev pub is_done : State → Bool
is_done New = false
is_done Open = false
is_done (Done column) = true

-- its column; 0 where it isn't known
abbrev pub column_of : State → ℕ
column_of New = 0
column_of Open = 0
column_of (Done column) = column

-- what cell k says, by its state, of the column of a cell that listens to it
abbrev pub after_state : ℕ → State → Next
after_state k New = Wait k
after_state k Open = Wait k
after_state k (Done column) = Column (column + 1)

-- what a source says of the column of a cell that listens to it
abbrev pub after_source : List State → Source → Next
after_source states Zero = Column 0
after_source states (Pad p) = Column 0
after_source states (Cell k) = after_state k (state_at states k)

-- goes on with a column; a cell that has to be waited for stays
abbrev pub and_then : Next → (ℕ → Next) → Next
and_then (Wait k) go_on = Wait k
and_then (Column column) go_on = go_on column

-- what these sources say together, where those before them give this column
abbrev pub after_pins : List State → ℕ → List Source → Next
after_pins states column [] = Column column
after_pins states column (source ∷ rest) =
    and_then (after_source states source) (λ after. after_pins states (max column after) rest)

-- the columns that are known are right, and each is less than the number of cells whose column is known
pub record AreRight (cells : List CellValue) (states : List State) : Type 0 where
  pub right : (columns : List ℕ) → AreColumns (only_cells cells) columns
      → (k column : ℕ) → state_at states k ≡ Done column → column ≡ slice_index columns k
  pub small : (k column : ℕ) → state_at states k ≡ Done column → column < count_by is_done states

-- The open cells are those on the stack, and each of them has a greater column than all that stand above
-- it.
pub record IsSearch (cells : List CellValue) (states : List State) (stack : List ℕ) : Type 0 where
  pub count : length states ≡ length cells
  pub known : AreRight cells states
  pub open_cells : (i : ℕ) → i < length stack → state_at states (slice_index stack i) ≡ Open
  pub stacked : (k : ℕ) → state_at states k ≡ Open → Contains stack k
  pub falling : (columns : List ℕ) → AreColumns (only_cells cells) columns
      → (i j : ℕ) → i < j → j < length stack
      → slice_index columns (slice_index stack j) < slice_index columns (slice_index stack i)

-- what is left to do
abbrev pub work : List State → List ℕ → ℕ
work states stack = 2 * count_by is_new states + length stack

-- cells that were met stay so
abbrev pub StayMet : List State → List State → Type 0
StayMet old new = (k : ℕ) → state_at new k ≡ New → state_at old k ≡ New
