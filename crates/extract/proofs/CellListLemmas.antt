-- Cells in flat lists, one by one.
use Rattle.std.proofs.Common.{◌≡◌, ℕ, zero, suc, ◌+◌, ◌<◌, List, [], ◌∷◌, ◌++◌, length, get_or, slice_get, Some, refl, ap, sym, ◌∙◌, arith}
use Rattle.std.specs.List.{sum_by}
use Rattle.std.proofs.lemmas.List.{get_or_read}
use Rattle.std.proofs.lemmas.List.Sums.{sum_by-cons}
use Rattle.std.proofs.lemmas.Option.{get_or_from_slice_get}
use Rattle.cell_defs.specs.declared.source.Source.{Source}
use Rattle.cell_defs.specs.Cells.{CellValue, no_cell}
use Rattle.extract.specs.CellLists.{cells_of, listed_cell, pins_in}

-- there is a cell for each table
pub length-cells_of : (lists : List (List Source)) (tables : List ℕ) → length lists ≡ length tables
    → length (cells_of lists tables) ≡ length tables
length-cells_of [] [] e = refl
length-cells_of [] (table ∷ tables) e = absurd (omega arith)
length-cells_of (pins ∷ rest) [] e = refl
length-cells_of (pins ∷ rest) (table ∷ tables) e = omega (arith, length-cells_of rest tables (omega arith))

-- and it has the pins and the table of its number
pub get_or-cells_of : (lists : List (List Source)) (tables : List ℕ) (k : ℕ) → length lists ≡ length tables → k < length tables
    → get_or (cells_of lists tables) k no_cell ≡ record { pins = get_or lists k []; table = get_or tables k 0 }
get_or-cells_of [] [] k e lt = absurd (omega arith)
get_or-cells_of [] (table ∷ tables) k e lt = absurd (omega arith)
get_or-cells_of (pins ∷ rest) [] k e lt = absurd (omega arith)
get_or-cells_of (pins ∷ rest) (table ∷ tables) zero e lt = refl
get_or-cells_of (pins ∷ rest) (table ∷ tables) (suc k) e lt = get_or-cells_of rest tables k (omega arith) (omega arith)

-- one more cell
pub cells_of-push : (lists : List (List Source)) (tables : List ℕ) (pins : List Source) (table : ℕ) → length lists ≡ length tables
    → cells_of (lists ++ pins ∷ []) (tables ++ table ∷ []) ≡ cells_of lists tables ++ record { pins = pins; table = table } ∷ []
cells_of-push [] [] pins table e = refl
cells_of-push [] (t ∷ ts) pins table e = absurd (omega arith)
cells_of-push (p ∷ ps) [] pins table e = absurd (omega arith)
cells_of-push (p ∷ ps) (t ∷ ts) pins table e =
    ap (λ cells. let cell : CellValue = record { pins = p; table = t } in cell ∷ cells) (cells_of-push ps ts pins table (omega arith))

-- the cells have the pins of all lists
pub pins_in-cells_of : (lists : List (List Source)) (tables : List ℕ) → length lists ≡ length tables
    → pins_in (cells_of lists tables) ≡ sum_by length lists
pins_in-cells_of [] [] e = refl
pins_in-cells_of [] (table ∷ tables) e = absurd (omega arith)
pins_in-cells_of (pins ∷ rest) [] e = absurd (omega arith)
pins_in-cells_of (pins ∷ rest) (table ∷ tables) e =
    let cell : CellValue = record { pins = pins; table = table } in
    sum_by-cons (λ (cell : CellValue). length cell.pins) cell (cells_of rest tables)
    ∙ ap (λ n. length pins + n) (pins_in-cells_of rest tables (omega arith))
    ∙ sym (sum_by-cons length pins rest)

-- the pins that the code reads
pub pins_read : (cells : List CellValue) (lists : List (List Source)) (tables : List ℕ) (k : ℕ) (pins : List Source)
    → cells_of lists tables ≡ cells → length lists ≡ length tables → k < length cells → slice_get lists k ≡ Some pins
    → pins ≡ (listed_cell cells k).pins
pins_read cells lists tables k pins view e lt read =
    let within : k < length tables = omega (arith, ap length view, length-cells_of lists tables e) in
    sym (get_or_from_slice_get lists k pins [] read)
    ∙ sym (ap (λ (cell : CellValue). cell.pins) (get_or-cells_of lists tables k e within))
    ∙ ap (λ all. (listed_cell all k).pins) view

-- and the table
pub table_read : (cells : List CellValue) (lists : List (List Source)) (tables : List ℕ) (k table : ℕ)
    → cells_of lists tables ≡ cells → length lists ≡ length tables → k < length cells → table ≡ get_or tables k table
    → table ≡ (listed_cell cells k).table
table_read cells lists tables k table view e lt read =
    let within : k < length tables = omega (arith, ap length view, length-cells_of lists tables e) in
    get_or_read tables k table within read 0
    ∙ sym (ap (λ (cell : CellValue). cell.table) (get_or-cells_of lists tables k e within))
    ∙ ap (λ all. (listed_cell all k).table) view
