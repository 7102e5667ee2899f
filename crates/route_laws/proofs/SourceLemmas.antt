-- Where mapped cells listen: to inputs and cells that are there.
use Rattle.std.proofs.Common.{ℕ, zero, suc, ◌<◌, ⊎_elim, List, length, get_or, All, subst, sym}
use Rattle.std.proofs.lemmas.Bool.{cases_lt}
use Rattle.std.proofs.lemmas.List.{get_or_past}
use Rattle.cell_defs.specs.declared.source.Source.{Source}
use Rattle.cell_defs.specs.declared.source.Source.TheVariants.{Zero, Pad, Cell}
use Rattle.cell_defs.specs.Cells.{IsSourceBelow}
use Rattle.map_defs.specs.Mapped.{MappedValue, mapped_cell, IsSourceAmong, IsSettledCell, AreSettled}

-- a settled cell is one of the cells
settled-within : (l : MappedValue) (n k : ℕ) → IsSettledCell l n k → k < length l.cells
settled-within l zero k h = absurd h
settled-within l (suc n) k h = h.0

-- a source among settled cells and inputs is nowhere, an input or a cell
among-below : (l : MappedValue) (n : ℕ) (s : Source) → IsSourceAmong l.inputs (IsSettledCell l n) s → IsSourceBelow l.inputs (length l.cells) s
among-below l n Zero h = tt
among-below l n (Pad i) h = h
among-below l n (Cell k) h = settled-within l n k h

-- and so is each pin of a settled cell
settled_pins : (l : MappedValue) (n k : ℕ) → IsSettledCell l n k → All (IsSourceBelow l.inputs (length l.cells)) (mapped_cell l k).pins
settled_pins l zero k h = absurd h
settled_pins l (suc n) k h = λ i d lt. among-below l n (get_or (mapped_cell l k).pins i d) (h.1 i d lt)

-- each pin of settled cells listens nowhere, to an input or to a cell
pub pins_below : (l : MappedValue) (k : ℕ) → AreSettled l → k < length l.cells → All (IsSourceBelow l.inputs (length l.cells)) (mapped_cell l k).pins
pins_below l k settled lt = settled_pins l settled.0 k (settled.1 k lt)

-- what holds of all sources of a list and of none holds at every place, also past the last one
pub All-place : (P : Source → Type 0) (ss : List Source) (i : ℕ) → All P ss → P Zero → P (get_or ss i Zero)
All-place P ss i h z =
    ⊎_elim (λ lt. h i Zero lt) (λ past. subst P (sym (get_or_past ss i Zero past)) z) (cases_lt i (length ss))
