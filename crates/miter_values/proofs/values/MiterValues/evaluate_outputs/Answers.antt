use Rattle.std.proofs.Common.{◌<◌, inl, length, ap, sym, ◌∙◌, subst, arith}
use Rattle.miter_cnf.specs.Circuits.{Circuits, AreCircuits}
use Rattle.miter_defs.specs.Numberings.{signal_variable, source_variable}
use Rattle.miter_values.specs.Parts.{AreSame, DifferHere, output_signal, output_source}
use Rattle.miter_values.proofs.RowLemmas.{not_equal}
use Rattle.miter_values.proofs.OutputLemmas.{signal_within, source_known, same_more}
use Rattle.miter_values.proofs.values.MiterValues.evaluate_outputs.Goals as goal

pub returns-then-second_value-value-clause-some : goal.returns-then-second_value-value-clause-some
returns-then-second_value-value-clause-some c =
    let t = c.args.self.now in
    let o = c.loop-o.o in
    let are = subst (λ (u : Circuits). AreCircuits u.net u.cells) c.self.view_is c.self.invariant.numbered.circuits in
    let lt : o < length t.net.outputs = (let test = c.loop-o-test.true in let count = c.outputs-o-end.ensures.count in let own = ap (λ (u : Circuits). length u.net.outputs) c.self.view_is in omega arith) in
    let differs : DifferHere t c.loop-o.e o = record {
      within = lt;
      signal_known = (c.loop-o.invariant.grows.known (signal_variable (output_signal t.net o))).1
          (inl (c.requires.done.signals_known (output_signal t.net o) (signal_within t.net o are.is_net lt)));
      source_known = (c.loop-o.invariant.grows.known (source_variable t.net t.cells (output_source t.cells o))).1
          (inl (source_known t c.args.e.now o are lt c.requires.done));
      other = λ same. not_equal c.second_value.result c.first_value-value.result c.if-second_value-value.true
          (c.second_value.ensures ∙ sym same ∙ sym c.first_value-value.ensures);
    } in
    differs

pub returns-then-second_value-value-clause-grows : goal.returns-then-second_value-value-clause-grows
returns-then-second_value-value-clause-grows c = (c.loop-o.o, c.loop-o.invariant.grows)

pub returns-clause-grows : goal.returns-clause-grows
returns-clause-grows c = (c.loop-o.o, c.loop-o.invariant.grows)

pub evaluate_output-requires-clause-source : goal.evaluate_output-requires-clause-source
evaluate_output-requires-clause-source c =
    let t = c.args.self.now in
    let o = c.loop-o.o in
    let are = subst (λ (u : Circuits). AreCircuits u.net u.cells) c.self.view_is c.self.invariant.numbered.circuits in
    let lt : o < length t.net.outputs = (let test = c.loop-o-test.true in let count = c.outputs-o-end.ensures.count in let own = ap (λ (u : Circuits). length u.net.outputs) c.self.view_is in omega arith) in
    (c.loop-o.invariant.grows.known (source_variable t.net t.cells (output_source t.cells o))).1 (inl (source_known t c.args.e.now o are lt c.requires.done))

pub loop-o-preserved : goal.loop-o-preserved
loop-o-preserved c = same_more c.args.self.now c.args.e.now c.loop-o.e c.evaluate_output.new.e c.loop-o.o c.loop-o.invariant c.evaluate_output.ensures.grows c.evaluate_output.ensures.value

pub returns-clause-none : goal.returns-clause-none
returns-clause-none c =
    let t = c.args.self.now in
    let test = c.loop-o-test.false in
    let end = c.loop-o.auto.o-end in
    let count = c.outputs-o-end.ensures.count in
    let own = ap (λ (u : Circuits). length u.net.outputs) c.self.view_is in
    subst (AreSame t c.args.e.now c.loop-o.e) (omega arith) c.loop-o.invariant
