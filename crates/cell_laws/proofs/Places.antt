-- Cells by their columns and rows.
use Rattle.std.proofs.Common.{ℕ, ◌<◌, subst, sym}
use Rattle.fabric_defs.specs.Geometries.{GeometryValue, cell_count, cell_number}
use Rattle.fabric_laws.proofs.LayoutLemmas.{cell_number-lt}
use Rattle.fabric_laws.proofs.NumberedLemmas.{place_splits}

-- what holds of the cell in each row of each column holds of each cell
pub by_place : (g : GeometryValue) (P : ℕ → Type 0)
    → ((column row : ℕ) → column < g.columns → row < g.rows → cell_number g column row < cell_count g → P (cell_number g column row))
    → (n : ℕ) → n < cell_count g → P n
by_place g P h n lt =
    let at = place_splits g.columns g.rows n lt in
    subst P (sym at.4) (h at.0 at.1 at.2 at.3 (cell_number-lt g at.0 at.1 at.2 at.3))
