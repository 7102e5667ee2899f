use Rattle.std.proofs.Common.{◌≡◌, ap, sym, ◌∙◌, subst, slice_get, Some}
use Rattle.leaf_defs.specs.Evaluated.{value_of}
use Rattle.miter_cnf.specs.Circuits.{Circuits, AreCircuits}
use Rattle.miter_defs.specs.Numberings.{source_variable}
use Rattle.miter_values.proofs.OutputLemmas.{source_is, source_inside}
use Rattle.miter_values.proofs.values.MiterValues.second_value.Goals as goal

pub source-requires-clause-inside : goal.source-requires-clause-inside
source-requires-clause-inside c = λ k e.
    let t = c.args.self.now in
    let are = subst (λ (u : Circuits). AreCircuits u.net u.cells) c.self.view_is c.self.invariant.numbered.circuits in
    let read = subst (λ (u : Circuits). slice_get u.cells.outputs c.args.o ≡ Some c.output.result) c.self.view_is c.output.ensures.value in
    source_inside t c.args.o k c.output.result are c.requires.output (source_is t.cells c.args.o c.output.result read) e

pub returns : goal.returns
returns c =
    let t = c.args.self.now in
    let read = subst (λ (u : Circuits). slice_get u.cells.outputs c.args.o ≡ Some c.output.result) c.self.view_is c.output.ensures.value in
    c.value.ensures ∙ ap (value_of c.args.e.now.values)
    (c.source.ensures ∙ ap (source_variable t.net t.cells) (sym (source_is t.cells c.args.o c.output.result read)))
