use Rattle.std.proofs.Common.{◌≡◌, ◌+◌, ◌<◌, ◌^◌, ◌==◌, List, length, map, ap, ◌∙◌, subst, arith}
use Rattle.std.specs.Int.{bit_at}
use Rattle.pch_base.specs.BitLists.{word_of}
use Rattle.cell_defs.specs.declared.source.Source.{Source}
use Rattle.cell_defs.specs.declared.source.Source.TheVariants.{Cell}
use Rattle.cell_defs.specs.Cells.{cell_at}
use Rattle.extract.specs.Kept.{AreCellsWithCone}
use Rattle.miter_cnf.specs.Circuits.{Circuits}
use Rattle.miter_defs.specs.Numberings.{cell_variable}
use Rattle.leaf_chain.specs.Growing.{IsWithout, with_implied}
use Rattle.miter_values.specs.Parts.{circuits_of, source_value}
use Rattle.miter_values.proofs.GrowLemmas.{grows_by}
use Rattle.miter_values.proofs.CellLemmas.{cell_step, source_below}
use Rattle.miter_values.proofs.values.MiterValues.evaluate_cell.Goals as goal

pub overflow_add-number : goal.overflow_add-number
overflow_add-number c =
    let t = c.args.self.now in
    let f = source_value t.net t.cells c.args.e.now in
    let few = ap (λ (u : Circuits). length (circuits_of u.net u.cells)) c.self.view_is in
    let cells = subst (λ (u : Circuits). AreCellsWithCone u.cells) c.self.view_is c.self.invariant.numbered.circuits.are_cells in
    let pins = c.cell-cell.ensures.pins ∙ ap (λ (u : Circuits). (cell_at u.cells c.args.k).pins) c.self.view_is in
    let word = c.word-word.ensures.word ∙ ap (λ (ps : List Source). word_of (map f ps)) pins in
    let below = subst (λ (ps : List Source). c.word-word.result < 2 ^ length ps) pins c.word-word.ensures.below in
    let step = cell_step t c.args.k c.args.number c.word-word.result c.args.e.now cells c.requires.cell c.requires.inside c.requires.number c.requires.known word below in
    let most = step.0 in
    omega (arith, c.self.invariant.few)

pub returns : goal.returns
returns c =
    let t = c.args.self.now in
    let f = source_value t.net t.cells c.args.e.now in
    let cells = subst (λ (u : Circuits). AreCellsWithCone u.cells) c.self.view_is c.self.invariant.numbered.circuits.are_cells in
    let pins = c.cell-cell.ensures.pins ∙ ap (λ (u : Circuits). (cell_at u.cells c.args.k).pins) c.self.view_is in
    let table = c.cell-cell.ensures.table ∙ ap (λ (u : Circuits). (cell_at u.cells c.args.k).table) c.self.view_is in
    let word = c.word-word.ensures.word ∙ ap (λ (ps : List Source). word_of (map f ps)) pins in
    let below = subst (λ (ps : List Source). c.word-word.result < 2 ^ length ps) pins c.word-word.ensures.below in
    let step = cell_step t c.args.k c.args.number c.word-word.result c.args.e.now cells c.requires.cell c.requires.inside c.requires.number c.requires.known word below in
    let variable : c.cell.result ≡ cell_variable t.net t.cells c.args.k =
    c.cell.ensures.variable c.self.inside.net.now c.self.inside.cells.now c.self.invariant.numbered.numbering
    ∙ ap (λ (u : Circuits). cell_variable u.net u.cells c.args.k) c.self.view_is in
    let some = c.self.invariant.numbered.circuits.is_net.outputs_some in
    let own = ap (λ (u : Circuits). length u.net.outputs) c.self.view_is in
    let high = source_below t (Cell c.args.k) (omega arith) in
    let without : IsWithout c.args.e.now (cell_variable t.net t.cells c.args.k) = record {
      low = omega arith;
      high = omega (arith, c.requires.valued.places);
      fresh = c.requires.fresh;
    } in
    let value : c.table_bit.result ≡ (bit_at (cell_at t.cells c.args.k).table c.word-word.result == 1) =
    c.table_bit.ensures ∙ ap (λ n. bit_at n c.word-word.result == 1) table in
    (grows_by (circuits_of t.net t.cells) c.args.e.now c.imply.new.self (cell_variable t.net t.cells c.args.k) c.cell.result
    (c.args.number + c.word-word.result) (bit_at (cell_at t.cells c.args.k).table c.word-word.result == 1)
    (c.imply.ensures ∙ ap (λ b. with_implied c.args.e.now c.cell.result b (c.args.number + c.word-word.result)) value)
    variable c.requires.valued.evaluated without (let at = c.requires.number in omega arith) step.0 step.1).0
