use Rattle.std.proofs.Common.{◌≡◌, subst}
use Rattle.miter_cnf.specs.Circuits.{Circuits, AreCircuits}
use Rattle.miter_defs.specs.Numberings.{zero_variable}
use Rattle.fabric_defs.specs.Geometries.{cell_count}
use Rattle.miter_values.specs.Parts.{circuits_of, IsOfSomeNode, IsOfCells, IsDifference, IsSameAt}
use Rattle.miter_values.proofs.InputLemmas.{zeroed_inputs, noded_inputs, celled_done, inputs_begin, inputs_grow, last_is_false, none_as}
use Rattle.miter_values.proofs.values.MiterValues.evaluate.Goals as goal

pub evaluate_nodes-requires-clause-inputs : goal.evaluate_nodes-requires-clause-inputs
evaluate_nodes-requires-clause-inputs c =
    let t = c.args.self.now in
    let are = subst (λ (u : Circuits). AreCircuits u.net u.cells) c.self.view_is c.self.invariant.numbered.circuits in
    zeroed_inputs t c.args.x c.choose_inputs.new.e c.evaluate_zero.new.e c.evaluate_zero.new.e c.evaluate_zero.new.e are c.choose_inputs.ensures.chosen c.evaluate_zero.ensures

pub evaluate_cells-requires-clause-inputs : goal.evaluate_cells-requires-clause-inputs
evaluate_cells-requires-clause-inputs c =
    let t = c.args.self.now in
    let are = subst (λ (u : Circuits). AreCircuits u.net u.cells) c.self.view_is c.self.invariant.numbered.circuits in
    noded_inputs t c.args.x c.choose_inputs.new.e c.evaluate_zero.new.e c.evaluate_nodes.new.e c.evaluate_nodes.new.e are c.choose_inputs.ensures.chosen c.evaluate_zero.ensures c.evaluate_nodes.ensures

pub evaluate_outputs-requires-clause-done : goal.evaluate_outputs-requires-clause-done
evaluate_outputs-requires-clause-done c =
    let t = c.args.self.now in
    let are = subst (λ (u : Circuits). AreCircuits u.net u.cells) c.self.view_is c.self.invariant.numbered.circuits in
    celled_done t c.args.x c.choose_inputs.new.e c.evaluate_zero.new.e c.evaluate_nodes.new.e c.evaluate_cells.new.e are c.choose_inputs.ensures.chosen c.evaluate_zero.ensures
    c.evaluate_nodes.ensures c.evaluate_cells.ensures

pub returns-clause-inputs : goal.returns-clause-inputs
returns-clause-inputs c =
    let t = c.args.self.now in
    let f = circuits_of t.net t.cells in
    let x = c.args.x in
    inputs_grow t.net f x c.evaluate_cells.new.e c.evaluate_outputs.new.e (IsDifference t.net t.cells c.evaluate_outputs.ensures.grows.0)
    (inputs_grow t.net f x c.evaluate_nodes.new.e c.evaluate_cells.new.e (IsOfCells t.net t.cells (cell_count t.cells.geometry))
    (inputs_grow t.net f x c.evaluate_zero.new.e c.evaluate_nodes.new.e (IsOfSomeNode t.net)
    (inputs_grow t.net f x c.choose_inputs.new.e c.evaluate_zero.new.e (λ u. u ≡ zero_variable) (inputs_begin t.net f x c.choose_inputs.new.e c.choose_inputs.ensures.chosen)
    c.evaluate_zero.ensures) c.evaluate_nodes.ensures) c.evaluate_cells.ensures) c.evaluate_outputs.ensures.grows.1

pub returns-clause-none : goal.returns-clause-none
returns-clause-none c =
    let t = c.args.self.now in
    none_as c.evaluate_outputs.result
    (λ same. let is : IsSameAt t c.evaluate_outputs.new.e = record {
      evaluated = same.grows.evaluated;
      last_false = last_is_false t c.evaluate_cells.new.e c.evaluate_outputs.new.e same;
    } in is)
    c.evaluate_outputs.ensures.none
