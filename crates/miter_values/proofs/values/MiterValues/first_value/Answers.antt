use Rattle.std.proofs.Common.{◌≡◌, ap, sym, ◌∙◌, subst, slice_get, Some, arith}
use Rattle.net_defs.specs.Nets.{IsNet}
use Rattle.net_defs.specs.Evaluation.{output_signals}
use Rattle.leaf_defs.specs.Evaluated.{value_of}
use Rattle.miter_cnf.specs.Circuits.{Circuits}
use Rattle.miter_defs.specs.Numberings.{signal_variable}
use Rattle.miter_values.proofs.OutputLemmas.{signal_is, signal_within}
use Rattle.miter_values.proofs.values.MiterValues.first_value.Goals as goal

pub signal-requires : goal.signal-requires
signal-requires c =
    let t = c.args.self.now in
    let net = subst (λ (u : Circuits). IsNet u.net) c.self.view_is c.self.invariant.numbered.circuits.is_net in
    let read = subst (λ (u : Circuits). slice_get (output_signals u.net) c.args.o ≡ Some c.output_signal.result) c.self.view_is c.output_signal.ensures in
    let same = signal_is t.net c.args.o c.output_signal.result c.requires.output read in
    let within = signal_within t.net c.args.o net c.requires.output in omega arith

pub value-requires : goal.value-requires
value-requires c =
    let t = c.args.self.now in
    let net = subst (λ (u : Circuits). IsNet u.net) c.self.view_is c.self.invariant.numbered.circuits.is_net in
    let read = subst (λ (u : Circuits). slice_get (output_signals u.net) c.args.o ≡ Some c.output_signal.result) c.self.view_is c.output_signal.ensures in
    let same = signal_is t.net c.args.o c.output_signal.result c.requires.output read in
    let within = signal_within t.net c.args.o net c.requires.output in
    omega (arith, c.signal.ensures.variable, c.requires.valued.places)

pub returns : goal.returns
returns c =
    let t = c.args.self.now in
    let read = subst (λ (u : Circuits). slice_get (output_signals u.net) c.args.o ≡ Some c.output_signal.result) c.self.view_is c.output_signal.ensures in
    let same = signal_is t.net c.args.o c.output_signal.result c.requires.output read in
    c.value.ensures ∙ ap (value_of c.args.e.now.values) (c.signal.ensures.variable ∙ ap signal_variable (sym same))
