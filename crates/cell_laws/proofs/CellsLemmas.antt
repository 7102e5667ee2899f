-- The cells of a configuration: they listen to lower numbers only, and their equations give the
-- bits of the wiring.
use Rattle.std.proofs.Common.{◌≡◌, ℕ, suc, ◌*◌, ◌<◌, true, List, length, get_or, All, ap, subst, sym, ◌∙◌, arith}
use Rattle.clause_defs.specs.Clauses.{Has}
use Rattle.fabric_defs.specs.Geometries.{GeometryValue, pin_count, cell_count, cell_number}
use Rattle.fabric_defs.specs.Configurations.{ConfigValue, IsConfig}
use Rattle.fabric_defs.specs.Wirings.{Wiring, Wired, pad_bits}
use Rattle.fabric_laws.proofs.NumberedLemmas.{length-list_of, All-list_of}
use Rattle.fabric_laws.proofs.LimitLemmas.{track_word-le, has_ranges}
use Rattle.fabric_laws.proofs.WiringLemmas.{wiring, wiring_is_wired}
use Rattle.cell_defs.specs.declared.source.Source.{Source}
use Rattle.cell_defs.specs.declared.source.Source.TheVariants.{Cell}
use Rattle.cell_defs.specs.Cells.{CellValue, CellsValue, cell_at, IsSourceBelow, IsCell, AreCells}
use Rattle.cell_defs.specs.Cones.{in_cone, IsClosed}
use Rattle.cell_defs.specs.Sources.{AreSourcesOf, pin_source, cell_of, output_source}
use Rattle.cell_defs.specs.Evaluation.{CellBits, ConeBits, output_bits}
use Rattle.cell_laws.proofs.SourceBits.{All-Has, source_bits-same}
use Rattle.cell_laws.proofs.CellEquations.{equations-agree}
use Rattle.cell_laws.proofs.Places.{by_place}
use Rattle.cell_laws.proofs.SourceRanges.{below-weaker, pin_source-below, output_source-below}
use Rattle.cell_laws.proofs.WiredSources.{wired_bits, pad_bits-source}

-- there is a wiring for each list of input bits
pub some_wiring : (config : ConfigValue) (x : List ℕ) → IsConfig config → (w : Wiring) × Wired config x w
some_wiring config x h = (wiring config x, wiring_is_wired config x (λ column t lt less. track_word-le config column t h lt less))

-- the cell of a configuration at a column and a row is one of its fabric
pub cell_of-IsCell : (config : ConfigValue) (column row : ℕ) → IsConfig config → column < config.geometry.columns → row < config.geometry.rows
    → IsCell config.geometry (cell_number config.geometry column row) (cell_of config column row)
cell_of-IsCell config column row h lt less =
    let g = config.geometry in
    let n = cell_number g column row in
    record {
      pins = length-list_of (pin_count g) (pin_source config column row);
      sources = All-list_of (IsSourceBelow g.input_pads n) (pin_count g) (pin_source config column row)
          (λ pin below. below-weaker g.input_pads (column * g.rows) n (pin_source config column row pin) (omega arith)
          (pin_source-below config (has_ranges config h) column row pin lt less below));
      table = (has_ranges config h).tables column row lt less;
    }

-- the cells of a configuration are those of its fabric
pub cells_of_config : (config : ConfigValue) (cells : CellsValue) → IsConfig config → AreSourcesOf config cells → AreCells cells
cells_of_config config cells h of =
    let g = config.geometry in
    let P : GeometryValue → Type 0 = λ m. AreCells (record cells { geometry = m }) in
    subst P (sym of.geometry)
    (record {
      geometry = h.geometry;
      count = of.count;
      each = by_place g (λ n. IsCell g n (cell_at cells n))
          (λ column row lt less _. let C : CellValue → Type 0 = IsCell g (cell_number g column row) in
          subst C (sym (of.each column row lt less)) (cell_of-IsCell config column row h lt less));
      pads = ap length of.outputs ∙ length-list_of g.output_pads (output_source config);
      outputs = let O : List Source → Type 0 = All (IsSourceBelow g.input_pads (cell_count g)) in
          subst O (sym of.outputs) (All-list_of (IsSourceBelow g.input_pads (cell_count g)) g.output_pads (output_source config)
          (output_source-below config (has_ranges config h)));
    })

-- an output pad listens to a cell of the fabric, if to any
pub output_cell-lt : (cells : CellsValue) (k : ℕ) → AreCells cells → Has cells.outputs (Cell k) → k < length cells.cells
output_cell-lt cells k are_cells has =
    let within : k < cell_count cells.geometry =
    All-Has (IsSourceBelow cells.geometry.input_pads (cell_count cells.geometry)) cells.outputs (Cell k) are_cells.outputs has in
    omega (arith, are_cells.count)

-- bits that obey the equations of a closed set of cells give the output pads the bits of the wiring
pub cone-outputs : (config : ConfigValue) (cells : CellsValue) (x a : List ℕ) (w : Wiring) → IsConfig config → AreSourcesOf config cells → Wired config x w
    → IsClosed cells (in_cone cells) → ConeBits cells x a → output_bits cells x a ≡ pad_bits config w
cone-outputs config cells x a w h of wired closed bits =
    let ranges = has_ranges config h in
    let are_cells = cells_of_config config cells h of in
    let all = wired_bits config cells x w ranges of wired in
    source_bits-same x a w.cells cells.outputs
    (λ n has. equations-agree cells x a w.cells (λ m. in_cone cells m ≡ true) are_cells
    (λ m j lt member listens. closed.pins m j lt member listens)
    bits (λ m lt _. all.each m lt) (suc n) n (omega arith) (output_cell-lt cells n are_cells has) (closed.outputs n has))
    ∙ pad_bits-source config cells x w ranges of wired

-- bits that obey all equations are those of the wiring's cells
pub cells-wired : (config : ConfigValue) (cells : CellsValue) (x a : List ℕ) (w : Wiring) → IsConfig config → AreSourcesOf config cells → Wired config x w
    → CellBits cells x a → (n : ℕ) → n < length cells.cells → get_or a n 0 ≡ get_or w.cells n 0
cells-wired config cells x a w h of wired bits n lt =
    let all = wired_bits config cells x w (has_ranges config h) of wired in
    equations-agree cells x a w.cells (λ _. Unit {0}) (cells_of_config config cells h of) (λ _ _ _ _ _. tt)
    (λ m less _. bits.each m less) (λ m less _. all.each m less) (suc n) n (omega arith) lt tt

-- and so they give the output pads the bits of the wiring
pub cells-outputs : (config : ConfigValue) (cells : CellsValue) (x a : List ℕ) (w : Wiring) → IsConfig config → AreSourcesOf config cells → Wired config x w
    → CellBits cells x a → output_bits cells x a ≡ pad_bits config w
cells-outputs config cells x a w h of wired bits =
    source_bits-same x a w.cells cells.outputs
    (λ n has. cells-wired config cells x a w h of wired bits n (output_cell-lt cells n (cells_of_config config cells h of) has))
    ∙ pad_bits-source config cells x w (has_ranges config h) of wired
