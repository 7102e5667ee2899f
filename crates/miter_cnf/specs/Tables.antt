-- The clause of one bit of a cell's table, over the literals of its pins.
use Rattle.std.specs.Prelude.{ℕ, ◌==◌, List, [], ◌∷◌, ◌++◌, length, map, slice_index_or}
use Rattle.std.specs.Int.{bit_at}
use Rattle.clause_defs.specs.Literals.{Literal}
use Rattle.clause_defs.specs.Clauses.{Lits}
use Rattle.net_defs.specs.Networks.{Network}
use Rattle.fabric_defs.specs.Numbered.{list_of}
use Rattle.cell_defs.specs.declared.source.Source.{Source}
use Rattle.cell_defs.specs.Cells.{CellsValue}
use Rattle.miter_defs.specs.Numberings.{zero_variable, source_variable}
use Rattle.miter_defs.specs.Miters.{literal, positive}

-- the literals of the sources of pins
abbrev pub source_literals : Network → CellsValue → List Source → Lits
source_literals net cells sources = map (λ source. positive (source_variable net cells source)) sources

-- the literal that is false where pin j has bit j of n
abbrev pub pin_literal : Lits → ℕ → ℕ → Literal
pin_literal pins n j = literal (slice_index_or pins j (positive zero_variable)).variable (bit_at n j == 0)

-- where each pin j has bit j of n, the cell has bit n of the table
abbrev pub bit_clause : Lits → Literal → ℕ → ℕ → Lits
bit_clause pins cell table n =
    list_of (length pins) (pin_literal pins n) ++ literal cell.variable (bit_at table n == 1) ∷ []
