use Rattle.std.proofs.Common.{◌≡◌, ℕ, ◌+◌, ◌*◌, ◌<◌, List, length, set, ap, sym, ◌∙◌, subst, arith}
use Rattle.std.proofs.lemmas.List.{length-set}
use Rattle.fabric_defs.specs.Geometries.{GeometryValue}
use Rattle.fabric_laws.proofs.LayoutLemmas.{cell_number-lt}
use Rattle.fabric.specs.BitArrays.{bit_of}
use Rattle.fabric.specs.Evaluation.{HasCells}
use Rattle.fabric.proofs.ColumnLemmas.{HasCells-more}
use Rattle.fabric.proofs.evaluation.put_cells_in.Goals as goal

-- a cell of the column has a place
pub set-requires : goal.set-requires
set-requires c =
    let g = c.args.config.now.geometry in
    let same = ap (λ (g : GeometryValue). g.rows) c.requires.geometry in
    let rows : c.r.result ≡ g.rows = c.r.ensures.value ∙ same in
    let inside : c.loop-row.row < g.rows = omega (arith, same) in
    let first : c.args.column * c.r.result ≡ c.args.column * g.rows = ap (λ n. c.args.column * n) rows in
    omega (arith, first, c.loop-row.invariant.places, c.requires.cells, cell_number-lt g c.args.column c.loop-row.row c.requires.column inside)

-- one cell more has its bit
pub loop-row-preserved : goal.loop-row-preserved
loop-row-preserved c =
    let config = c.args.config.now in
    let column : ℕ = c.args.column in
    let row : ℕ = c.loop-row.row in
    let same = ap (λ (g : GeometryValue). g.rows) c.requires.geometry in
    let rows : c.r.result ≡ config.geometry.rows = c.r.ensures.value ∙ same in
    let inside : row < config.geometry.rows = omega (arith, same) in
    let written : c.set.new.self ≡ set c.loop-row.cells (column * config.geometry.rows + row) (bit_of c.cell_bit.result) =
    c.set.ensures ∙ ap (λ m. set c.loop-row.cells (column * m + row) (bit_of c.cell_bit.result)) rows in
    record {
      places = ap length c.set.ensures ∙ length-set c.loop-row.cells _ _ ∙ c.loop-row.invariant.places;
      done = λ x before old.
          let P : List ℕ → Type 0 = λ l. HasCells config x (column * config.geometry.rows + (row + 1)) l in
          subst P (sym written)
          (HasCells-more config x c.args.tracks.now c.loop-row.cells column row (bit_of c.cell_bit.result) c.requires.column inside
          (c.loop-row.invariant.places ∙ c.requires.cells) before (c.loop-row.invariant.done x before old) c.cell_bit.ensures);
    }

-- so the cells of the column have theirs, and those before it keep theirs
pub returns-clause-cells : goal.returns-clause-cells
returns-clause-cells c = λ x before old w wired n lt.
    let config = c.args.config.now in
    let same = ap (λ (g : GeometryValue). g.rows) c.requires.geometry in
    let next : (c.args.column + 1) * config.geometry.rows ≡ c.args.column * config.geometry.rows + config.geometry.rows = grind arith in
    c.loop-row.invariant.done x before old w wired n (omega (arith, same))
