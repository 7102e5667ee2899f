-- The steps in which the code makes tables and terms.
use Rattle.std.specs.Prelude.{ℕ, Bool, true, false, not, if◌then◌else◌, List, [], ◌∷◌}
use Rattle.blif_defs.specs.declared.mark.Mark.{Mark}
use Rattle.blif_defs.specs.declared.mark.Mark.TheVariants.{Zero as Off, One, Any}
use Rattle.cell_defs.specs.declared.source.Source.TheVariants.{Pad}
use Rattle.map_defs.specs.declared.gate.Gate.{Gate}
use Rattle.map_defs.specs.declared.term.Term.{Term}
use Rattle.fabric_defs.specs.Numbered.{list_of}
use Rattle.net_defs.specs.Evaluation.{node_bit}
use Rattle.cell_defs.specs.Cells.{CellValue}
use Rattle.map_defs.specs.Tables.{bit_of, table_of}
use Rattle.map_defs.specs.NodeCells.{joined_cells}
use Rattle.map_defs.specs.Gates.{joins}

-- the bit of a gate where the sources of its terms have these bits
abbrev pub gate_bit : Gate → Bool → List Term → List ℕ → ℕ
gate_bit gate negated terms bits = bit_of (if negated then not (joins gate terms bits) else joins gate terms bits)

-- what a mark asks of the fan-in with this number
abbrev pub mark_terms : ℕ → Mark → List Term
mark_terms pin Off = record { source = Pad pin; positive = false } ∷ []
mark_terms pin One = record { source = Pad pin; positive = true } ∷ []
mark_terms pin Any = []

-- the one cell of a node with so many fan-ins, all of them as its pins
abbrev pub direct : ℕ → Bool → List (List Mark) → CellValue
direct pins on rows = record {
  pins = list_of pins Pad;
  table = table_of pins (node_bit (record { fan_ins = []; on = on; rows = rows }));
}

-- the cells of a node with many fan-ins
abbrev pub joined_of : Bool → List (List Mark) → List CellValue
joined_of on rows = joined_cells (record { fan_ins = []; on = on; rows = rows })
