-- Each configuration has cells: those at its columns and rows, with their cone.
use Rattle.std.proofs.Common.{◌≡◌, ℕ, ◌/◌, ◌%◌, ◌<◌, Bool, true, false, List, [], length, refl, sym, ap, ◌∙◌, ⊎_elim, arith}
use Rattle.std.proofs.lemmas.Bool.{cases_lt}
use Rattle.std.proofs.lemmas.List.{get_or_past}
use Rattle.std.proofs.lemmas.Nat.{div-mul-add, mod-mul-add}
use Rattle.fabric_defs.specs.Numbered.{list_of}
use Rattle.fabric_defs.specs.Geometries.{cell_count, cell_number}
use Rattle.fabric_defs.specs.Configurations.{ConfigValue, IsConfig}
use Rattle.fabric_laws.proofs.LayoutLemmas.{cell_number-lt}
use Rattle.fabric_laws.proofs.NumberedLemmas.{length-list_of, get_or-list_of}
use Rattle.cell_defs.specs.Cells.{CellsValue, no_cell, AreCells}
use Rattle.cell_defs.specs.Cones.{in_cone, with_cone, IsCone}
use Rattle.cell_defs.specs.Sources.{AreSourcesOf, AreCellsOf, cell_of, output_sources}
use Rattle.cell_laws.proofs.CellEquations.{listens_below}
use Rattle.cell_laws.proofs.CellsLemmas.{cells_of_config, output_cell-lt}
use Rattle.cell_laws.proofs.ConeLemmas.{AreCellsOf-with_cone}
use Rattle.cell_laws.proofs.ConeExistence.{cone_exists}

-- the cells of a configuration by number, with no cone
pub sources_in : ConfigValue → CellsValue
sources_in config = record {
  geometry = config.geometry;
  cells = list_of (cell_count config.geometry) (λ n. cell_of config (n / config.geometry.rows) (n % config.geometry.rows));
  outputs = output_sources config;
  cone = [];
}

-- these are the sources and tables of the configuration
pub sources_in-are : (config : ConfigValue) → AreSourcesOf config (sources_in config)
unfolding sources_in
sources_in-are config = record {
  geometry = refl;
  count = length-list_of (cell_count config.geometry) (λ n. cell_of config (n / config.geometry.rows) (n % config.geometry.rows));
  each = λ column row lt less. let g = config.geometry in
      get_or-list_of (cell_count g) (λ n. cell_of config (n / g.rows) (n % g.rows)) (cell_number g column row) no_cell
      (cell_number-lt g column row lt less)
      ∙ ap (λ c. cell_of config c (cell_number g column row % g.rows)) (div-mul-add column g.rows row less)
      ∙ ap (λ r. cell_of config column r) (mod-mul-add column g.rows row less);
  outputs = refl;
}

-- the marks of a set
marks : CellsValue → (ℕ → Bool) → List Bool
marks cells set = list_of (length cells.cells) set

-- they tell the set
marked : (cells : CellsValue) (set : ℕ → Bool) (n : ℕ) → n < length cells.cells → in_cone (with_cone cells (marks cells set)) n ≡ set n
unfolding marks
marked cells set n lt = get_or-list_of (length cells.cells) set n false lt

-- past the last cell there is none
marked-lt : (cells : CellsValue) (set : ℕ → Bool) (n : ℕ) → in_cone (with_cone cells (marks cells set)) n ≡ true → n < length cells.cells
unfolding marks
marked-lt cells set n is =
    ⊎_elim (λ lt. lt)
    (λ le. let none : in_cone (with_cone cells (marks cells set)) n ≡ false =
    get_or_past (marks cells set) n false (omega (arith, length-list_of (length cells.cells) set)) in
    absurd cc)
    (cases_lt n (length cells.cells))

-- the marks of a cone tell a cone
marked_cone : (cells : CellsValue) (set : ℕ → Bool) → AreCells cells → IsCone cells set → IsCone cells (in_cone (with_cone cells (marks cells set)))
marked_cone cells set are_cells cone = record {
  closed = record {
    outputs = λ n has. marked cells set n (output_cell-lt cells n are_cells has) ∙ cone.closed.outputs n has;
    pins = λ m n lt member has. let below : n < m = listens_below cells m n are_cells lt has in
        marked cells set n (omega arith) ∙ cone.closed.pins m n lt (sym (marked cells set m lt) ∙ member) has;
  };
  least = λ other closed n member. cone.least other closed n (sym (marked cells set n (marked-lt cells set n member)) ∙ member);
}

-- each configuration has cells, of which those of the least closed set are in the cone
pub cells_exist : (config : ConfigValue) → IsConfig config → (cells : CellsValue) × AreCellsOf config cells
unfolding marks
cells_exist config is_config =
    let cells = sources_in config in
    let of = sources_in-are config in
    let are_cells = cells_of_config config cells is_config of in
    let cone = cone_exists cells are_cells in (
      with_cone cells (marks cells cone.0),
      AreCellsOf-with_cone config cells (marks cells cone.0) of (length-list_of (length cells.cells) cone.0 ∙ are_cells.count)
          (marked_cone cells cone.0 are_cells cone.1),
    )
