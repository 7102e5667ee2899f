use Rattle.std.proofs.Common.{◌≡◌, ◌+◌, length, length-set, ap, sym, ◌∙◌, subst, arith}
use Rattle.leaf_defs.specs.Evaluated.{Evaluated}
use Rattle.leaf_chain.specs.Growing.{with_chosen}
use Rattle.miter_cnf.specs.Circuits.{Circuits}
use Rattle.miter_defs.specs.Numberings.{signal_variable}
use Rattle.miter_values.specs.Parts.{circuits_of, AreChosen}
use Rattle.miter_values.proofs.InputLemmas.{chosen_none, chosen_more}
use Rattle.miter_values.proofs.values.MiterValues.choose_inputs.Goals as goal

pub loop-i-init : goal.loop-i-init
loop-i-init c =
    let t = c.args.self.now in record {
      chosen = chosen_none (circuits_of t.net t.cells) c.args.x c.clear.new.self (c.clear.ensures.evaluated (circuits_of t.net t.cells)) c.clear.ensures.empty;
      places = c.clear.ensures.variables;
    }

pub loop-i-preserved : goal.loop-i-preserved
loop-i-preserved c =
    let t = c.args.self.now in
    let i = c.loop-i.i in
    let f = circuits_of t.net t.cells in
    let test = c.loop-i-test.true in
    let count = c.inputs-i-end.ensures.count in
    let own = ap (λ (u : Circuits). length u.net.inputs) c.self.view_is in
    let after : c.choose.new.self ≡ with_chosen c.loop-i.e (signal_variable i) c.get.result =
    c.choose.ensures ∙ ap (λ v. with_chosen c.loop-i.e v c.get.result) c.input.ensures.variable in
    record {
      chosen = subst (AreChosen f c.args.x (i + 1)) (sym after)
          (chosen_more f c.args.x i c.loop-i.e c.get.result c.loop-i.invariant.chosen (omega (arith, c.loop-i.invariant.places, c.requires.places)) c.get.ensures);
      places = ap (λ (e : Evaluated). length e.values) after ∙ length-set c.loop-i.e.values (signal_variable i) c.get.result ∙ c.loop-i.invariant.places;
    }
