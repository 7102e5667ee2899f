-- Mapped cells have columns, which are kept with them.
use Rattle.std.proofs.Common.{◌≡◌, ℕ, zero, suc, ◌<◌, ◌≤◌, ⊎_elim, List, [], ◌∷◌, length, map, get_or, All, ap, sym, subst, ◌∙◌, arith}
use Rattle.std.proofs.lemmas.List.{get_or-map, length-map}
use Rattle.std.proofs.lemmas.List.Elements.{All-head, All-tail}
use Rattle.clause_defs.specs.Clauses.{Has}
use Rattle.fabric_defs.specs.declared.limits.TheConstants.{MAX_PINS}
use Rattle.cell_defs.specs.declared.source.Source.{Source}
use Rattle.cell_defs.specs.declared.source.Source.TheVariants.{Cell}
use Rattle.cell_defs.specs.Cells.{CellValue, no_cell}
use Rattle.map_defs.specs.Mapped.{MappedValue, mapped_cell, IsSourceAmong, IsSettledCell}
use Rattle.map_defs.specs.Columns.{AreColumns}
use Rattle.map_laws.proofs.ColumnLemmas.{columns-exist, columns-unique}
use Rattle.lut_map.specs.declared.lut_cell.LutCell.{LutCell}
use Rattle.lut_map.specs.Kept.{luts_of, AreLuts, AreKept}
use Rattle.lut_map.specs.LutCells.{lut_cell}
use Rattle.lut_map.specs.Search.{only_cells, HaveColumns}

-- a settled cell is one of the list
settled-is_cell : (l : MappedValue) (n k : ℕ) → IsSettledCell l n k → k < length l.cells
settled-is_cell l zero k h = absurd h
settled-is_cell l (suc n) k h = h.0

-- so are the cells among settled sources
among-within : (l : MappedValue) (n : ℕ) (pins : List Source) (j : ℕ) → All (IsSourceAmong l.inputs (IsSettledCell l n)) pins → Has pins (Cell j)
    → j < length l.cells
among-within l n [] j all h = absurd h
among-within l n (pin ∷ pins) j all h =
    let P : Source → Type 0 = IsSourceAmong l.inputs (IsSettledCell l n) in
    ⊎_elim
    (λ e. settled-is_cell l n j (subst P e (All-head P pin pins all)))
    (λ there. among-within l n pins j (All-tail P pin pins all) there)
    h

-- and the cells to which a settled cell listens
settled-within : (l : MappedValue) (n k j : ℕ) → IsSettledCell l n k → Has (mapped_cell l k).pins (Cell j) → j < length l.cells
settled-within l zero k j settled h = absurd settled
settled-within l (suc n) k j settled h = among-within l n (mapped_cell l k).pins j settled.1 h

-- mapped cells have columns
pub luts-columns : (inputs : ℕ) (cells : List CellValue) (outputs : List Source) → AreLuts (luts_of inputs cells outputs) → HaveColumns cells
luts-columns inputs cells outputs h =
    let l = luts_of inputs cells outputs in
    let settled = h.mapped.settled in
    let columns = columns-exist l settled in
    record {
      few = h.few.cells;
      within = λ k j lt has. settled-within l settled.0 k j (settled.1 k lt) has;
      found = (columns.0, record { count = columns.1.count; each = columns.1.each });
    }

-- and keep those that were found
pub luts-kept : (inputs : ℕ) (cells : List CellValue) (outputs : List Source) (columns : List ℕ) → AreLuts (luts_of inputs cells outputs)
    → AreColumns (only_cells cells) columns → All (λ column. column < length cells) columns → AreKept (luts_of inputs cells outputs) columns
luts-kept inputs cells outputs columns h are small = record {
  known = h;
  found = record { count = are.count; each = are.each };
  small = small;
}

-- a column that is kept is that of any list of columns
pub kept-column : (l : MappedValue) (kept columns : List ℕ) (k column : ℕ) → AreKept l kept → AreColumns l columns → get_or kept k 0 ≡ column
    → column ≡ get_or columns k 0
kept-column l kept columns k column h are read =
    sym read ∙ ap (λ list. get_or list k 0) (columns-unique l kept columns h.known.mapped.settled h.found are)

-- no cell that is handed in has too many pins
pub handed-few : (inputs : ℕ) (cells : List LutCell) (outputs : List Source) → AreLuts (luts_of inputs (map lut_cell cells) outputs)
    → All (λ (cell : LutCell). length cell.pins.items ≤ MAX_PINS) cells
handed-few inputs cells outputs h k d lt =
    let P : CellValue → Type 0 = λ cell. length cell.pins ≤ MAX_PINS in
    let within : k < length (map lut_cell cells) = omega (arith, length-map cells lut_cell) in
    subst P (get_or-map lut_cell cells k d no_cell lt) (h.mapped.each k within).few_pins
