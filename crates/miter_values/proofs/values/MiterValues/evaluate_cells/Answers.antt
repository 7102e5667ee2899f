use Rattle.std.proofs.Common.{◌≡◌, ◌+◌, length, ap, sym, ◌∙◌, subst, arith}
use Rattle.cell_defs.specs.Cones.{in_cone}
use Rattle.fabric_defs.specs.Geometries.{cell_count, table_bits}
use Rattle.extract.specs.Kept.{AreCellsWithCone}
use Rattle.miter_cnf.specs.Circuits.{Circuits}
use Rattle.miter_defs.specs.Numberings.{cell_variable}
use Rattle.miter_values.specs.Parts.{circuits_of, IsOfCells}
use Rattle.miter_values.proofs.GrowLemmas.{grows_both}
use Rattle.miter_values.proofs.ClauseNumbers.{cell_next}
use Rattle.miter_values.proofs.CellLemmas.{pins_known, cells_more}
use Rattle.miter_values.proofs.values.MiterValues.evaluate_cells.Goals as goal

pub evaluate_cell-requires-clause-known : goal.evaluate_cell-requires-clause-known
evaluate_cell-requires-clause-known c =
    let t = c.args.self.now in
    let cells = subst (λ (u : Circuits). AreCellsWithCone u.cells) c.self.view_is c.self.invariant.numbered.circuits.are_cells in
    let end = ap (λ (u : Circuits). cell_count u.cells.geometry) c.self.view_is in
    let count = c.cells-k-end.ensures.count ∙ ap (λ g. cell_count g) c.geometry-2.ensures.value in
    let test = c.loop-k-test.true in
    let inside = sym (ap (λ (u : Circuits). in_cone u.cells c.loop-k.k) c.self.view_is) ∙ sym c.in_cone.ensures.value ∙ c.if-not-in_cone.false in
    pins_known t c.loop-k.k c.args.e.now c.loop-k.e cells (omega arith) inside c.requires.zero c.requires.inputs c.loop-k.invariant.grows

pub overflow_add-number : goal.overflow_add-number
overflow_add-number c =
    let t = c.args.self.now in
    let few = ap (λ (u : Circuits). length (circuits_of u.net u.cells)) c.self.view_is in
    let cells = subst (λ (u : Circuits). AreCellsWithCone u.cells) c.self.view_is c.self.invariant.numbered.circuits.are_cells in
    let many = cells.cells.count in
    let end = ap (λ (u : Circuits). cell_count u.cells.geometry) c.self.view_is in
    let count = c.cells-k-end.ensures.count ∙ ap (λ g. cell_count g) c.geometry-2.ensures.value in
    let test = c.loop-k-test.true in
    let inside = sym (ap (λ (u : Circuits). in_cone u.cells c.loop-k.k) c.self.view_is) ∙ sym c.in_cone.ensures.value ∙ c.if-not-in_cone.false in
    let size : c.table_bits-size.result ≡ table_bits t.cells.geometry =
    c.table_bits-size.ensures.bits ∙ ap (λ g. table_bits g) c.geometry.ensures.value ∙ ap (λ (u : Circuits). table_bits u.cells.geometry) c.self.view_is in
    let next = cell_next t.net t.cells c.loop-k.k c.loop-k.number (omega arith) c.loop-k.invariant.number inside in
    let most = next.1 in
    omega (arith, c.self.invariant.few)

pub loop-k-preserved : goal.loop-k-preserved
loop-k-preserved c =
    let t = c.args.self.now in
    let cells = subst (λ (u : Circuits). AreCellsWithCone u.cells) c.self.view_is c.self.invariant.numbered.circuits.are_cells in
    let many = cells.cells.count in
    let flags = cells.cone.count in
    let end = ap (λ (u : Circuits). cell_count u.cells.geometry) c.self.view_is in
    let count = c.cells-k-end.ensures.count ∙ ap (λ g. cell_count g) c.geometry-2.ensures.value in
    let test = c.loop-k-test.true in
    let inside = sym (ap (λ (u : Circuits). in_cone u.cells c.loop-k.k) c.self.view_is) ∙ sym c.in_cone.ensures.value ∙ c.if-not-in_cone.false in
    let size : c.table_bits-size.result ≡ table_bits t.cells.geometry =
    c.table_bits-size.ensures.bits ∙ ap (λ g. table_bits g) c.geometry.ensures.value ∙ ap (λ (u : Circuits). table_bits u.cells.geometry) c.self.view_is in
    let next = cell_next t.net t.cells c.loop-k.k c.loop-k.number (omega arith) c.loop-k.invariant.number inside in
    record {
      grows = grows_both (circuits_of t.net t.cells) c.args.e.now c.loop-k.e c.evaluate_cell.new.e (IsOfCells t.net t.cells c.loop-k.k)
          (λ u. u ≡ cell_variable t.net t.cells c.loop-k.k) (IsOfCells t.net t.cells (c.loop-k.k + 1)) c.loop-k.invariant.grows c.evaluate_cell.ensures
          (λ u. cells_more t.net t.cells c.loop-k.k u (omega arith) inside);
      number = ap (λ n. c.loop-k.number + n) size ∙ next.0;
    }
