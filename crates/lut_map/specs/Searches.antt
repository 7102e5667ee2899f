-- The search for columns as it stands in memory.
use Rattle.std.specs.Prelude.{ℕ, List}
use Rattle.cell_defs.specs.Cells.{CellValue}
use Rattle.lut_map.specs.Search.{IsSearch, work}
use Rattle.lut_map.specs.declared.columns.Search.{Search}

-- the search stands as it must
abbrev pub IsSound : List CellValue → Search → Type 0
IsSound cells s = IsSearch cells s.states.items s.stack.items

-- what is left to do for the search
abbrev pub work_of : Search → ℕ
work_of s = work s.states.items s.stack.items
