use Rattle.std.proofs.Common.{ℕ, ◌<◌, ◌≤◌, length, sym, subst}
use Rattle.fabric_defs.specs.Geometries.{pin_count}
use Rattle.map_defs.specs.Mapped.{MappedValue, mapped_cell}
use Rattle.map_laws.proofs.SettledLemmas.{mapping-narrow}
use Rattle.map_laws.proofs.laws.reference_cells_are_narrow.Goals as goal

-- by the mapping that the list of cells is
pub returns : goal.returns
returns c net l g k is_net h lt =
    let P : MappedValue → Type 0 = λ m. k < length m.cells → length (mapped_cell m k).pins ≤ pin_count g in
    subst P (sym h.2) (λ within. mapping-narrow net h.0 is_net h.1.closed g k within) lt
