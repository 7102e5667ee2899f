-- How far the cells of rows are made.
use Rattle.std.proofs.Common.{◌≡◌, ℕ, ◌+◌, ◌-◌, ◌<◌, ◌≤◌, true, List, [], ◌∷◌, ◌++◌, length, drop, get_or, ap, sym, ◌∙◌, arith, length-append}
use Rattle.std.proofs.lemmas.List.{drop_more, append_assoc, length_push}
use Rattle.blif_defs.specs.declared.mark.Mark.{Mark}
use Rattle.cell_defs.specs.declared.source.Source.TheVariants.{Cell}
use Rattle.cell_defs.specs.Cells.{CellValue}
use Rattle.map_defs.specs.declared.term.Term.{Term}
use Rattle.map_defs.specs.NodeCells.{row_cells, rows_cells, rows_terms}
use Rattle.lut_map.specs.declared.made.TheConstants.{MAX_CELLS}

-- of these rows the first i have their cells behind the ones at the start, and their last cells are listed
pub record AreRows (start : List CellValue) (first : ℕ) (rows : List (List Mark)) (cells : List CellValue) (ends : List Term) (i : ℕ) : Type 0 where
  pub within : first ≤ length cells
  pub few : length ends ≤ length cells
  pub small : length ends ≤ MAX_CELLS
  pub made : cells ++ rows_cells (length cells - first) (drop i rows) ≡ start ++ rows_cells (length start - first) rows
  pub listed : ends ++ rows_terms (length cells - first) (drop i rows) ≡ rows_terms (length start - first) rows

-- one more row
pub rows_more : (start : List CellValue) (first : ℕ) (rows : List (List Mark)) (cells : List CellValue) (ends : List Term) (i : ℕ) (row : List Mark)
    (new : List CellValue) (count : ℕ)
    → AreRows start first rows cells ends i → i < length rows → get_or rows i row ≡ row
    → new ≡ cells ++ row_cells (length cells - first) row → count ≡ length new → length cells < count → count ≤ MAX_CELLS
    → AreRows start first rows new (ends ++ record { source = Cell (count - first - 1); positive = true } ∷ []) (i + 1)
rows_more start first rows cells ends i row new count h lt at written counted more most =
    let n : ℕ = length cells - first in
    let r = row_cells n row in
    let rest = drop (i + 1) rows in
    let size : length new ≡ length cells + length r = ap length written ∙ length-append cells r in
    let le : first ≤ length cells = h.within in
    let after : n + length r ≡ length new - first = omega arith in
    let term : Term = record { source = Cell (count - first - 1); positive = true } in
    let here : drop i rows ≡ row ∷ rest = drop_more rows i row lt ∙ ap (λ x. x ∷ rest) at in
    let same : n + length r - 1 ≡ count - first - 1 = omega arith in
    record {
      within = omega arith;
      few = omega (arith, length_push ends term, h.few);
      small = omega (arith, length_push ends term, h.few);
      made =
          ap (λ l. l ++ rows_cells (length new - first) rest) written
          ∙ ap (λ m. cells ++ r ++ rows_cells m rest) (sym after)
          ∙ append_assoc cells r (rows_cells (n + length r) rest)
          ∙ ap (λ l. cells ++ rows_cells n l) (sym here)
          ∙ h.made;
      listed =
          append_assoc ends (term ∷ []) (rows_terms (length new - first) rest)
          ∙ ap (λ m. ends ++ (term ∷ rows_terms m rest)) (sym after)
          ∙ ap (λ m. let t : Term = record { source = Cell m; positive = true } in ends ++ (t ∷ rows_terms (n + length r) rest)) (sym same)
          ∙ ap (λ l. ends ++ rows_terms n l) (sym here)
          ∙ h.listed;
    }
