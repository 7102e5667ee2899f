use Rattle.std.proofs.Common.{◌≡◌, ◌<◌, ◌-◌, ◌+◌, ◌↔◌, ◌⊎◌, ℕ, List, [], false, subst, sym, ◌∙◌, arith}
use Rattle.std.proofs.lemmas.List.{get_or_read}
use Rattle.clause_defs.specs.Clauses.{Has}
use Rattle.fabric_defs.specs.Geometries.{cell_count}
use Rattle.cell_defs.specs.declared.source.Source.{Source}
use Rattle.cell_defs.specs.declared.source.Source.TheVariants.{Cell}
use Rattle.cell_defs.specs.Cells.{CellsValue}
use Rattle.extract.specs.Kept.{cells_with}
use Rattle.extract.specs.Walks.{IsMarked}
use Rattle.extract.proofs.ConeLemmas.{IsSwept, outputs_below, pins_below, sweep_more, swept}
use Rattle.extract.proofs.cone.cone_of.Goals as goal

-- the cells of the output pads are cells of the list
pub mark_cells-requires : goal.mark_cells-requires
mark_cells-requires c n has =
    let l : CellsValue = cells_with c.args.g c.args.cells.now c.args.outputs.now [] in
    omega (
      arith,
      outputs_below l (c.requires []) n has,
      c.cells-count.ensures.count,
      c.in_ok-cone.ensures.len,
      c.in_ok-cone.cone.ok.0,
    )

-- the cell that is looked at is one
pub get-requires : goal.get-requires
get-requires c = omega (arith, (c.requires []).count, c.cells-count.ensures.count)

-- its pins listen to lower cells
pub mark_cells-requires-then-index : goal.mark_cells-requires-then-index
mark_cells-requires-then-index c n has =
    let l : CellsValue = cells_with c.args.g c.args.cells.now c.args.outputs.now [] in
    let P : List Source → Type 0 = λ ss. Has ss (Cell n) in
    omega (
      arith,
      pins_below l (c.loop-cell.cell - 1) (c.requires []) (omega (arith, c.cells-count.ensures.count)) n
          (subst P c.get.ensures.pins has),
      c.loop-cell.invariant.cells,
    )

-- a marked cell marks those to which it listens
pub loop-cell-preserved-then-index : goal.loop-cell-preserved-then-index
loop-cell-preserved-then-index c =
    let l : CellsValue = cells_with c.args.g c.args.cells.now c.args.outputs.now [] in
    let cell = c.loop-cell.cell - 1 in
    let flags = c.loop-cell.cone.items in
    let next = c.mark_cells-then-index.new.cone.items in
    let within : cell < cell_count l.geometry = omega (arith, c.cells-count.ensures.count) in
    let after : c.loop-cell.cell ≡ cell + 1 = omega arith in
    let M : ℕ → List Source → Type 0 = λ n ss. IsMarked next n ↔ (IsMarked flags n ⊎ Has ss (Cell n)) in
    let S : ℕ → Type 0 = λ n. IsSwept l n flags in
    let marked = sym (get_or_read flags cell c.index.result.now (omega (arith, c.loop-cell.invariant.cells)) c.index.ensures false) ∙ c.if-index.true in
    sweep_more l cell flags next (c.requires []) within marked c.mark_cells-then-index.ensures.cells
    (λ n. subst (M n) c.get.ensures.pins (c.mark_cells-then-index.ensures.marks n)) (subst S after c.loop-cell.invariant)

-- when all were looked at, the marks are the cone
pub returns : goal.returns
returns c =
    let l : CellsValue = cells_with c.args.g c.args.cells.now c.args.outputs.now [] in
    let first : c.loop-cell.cell ≡ 0 = omega arith in
    let S : ℕ → Type 0 = λ n. IsSwept l n c.loop-cell.cone.items in
    swept l c.loop-cell.cone.items (c.requires []) (subst S first c.loop-cell.invariant)
