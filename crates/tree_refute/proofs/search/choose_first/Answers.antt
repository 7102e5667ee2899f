use Rattle.std.proofs.Common.{◌+◌, [], length, length-set, ap, sym, ◌∙◌, subst, arith}
use Rattle.leaf_defs.specs.Evaluated.{Evaluated}
use Rattle.miter_defs.specs.Numberings.{signal_variable}
use Rattle.miter_values.specs.Parts.{AreChosen}
use Rattle.miter_values.proofs.InputLemmas.{chosen_none, chosen_fresh, chosen_more}
use Rattle.tree_refute.proofs.search.choose_first.Goals as goal

pub loop-j-init : goal.loop-j-init
loop-j-init c = record {
  chosen = λ f. chosen_none f c.args.x c.clear.new.self (c.clear.ensures.evaluated f) c.clear.ensures.empty;
  places = c.clear.ensures.variables;
}

pub choose-requires : goal.choose-requires
choose-requires c =
    chosen_fresh [] c.args.x c.loop-j.j c.loop-j.e (c.loop-j.invariant.chosen [])
    (let test = c.loop-j-test.true in omega (arith, c.loop-j.invariant.places, c.requires.places))

pub loop-j-preserved : goal.loop-j-preserved
loop-j-preserved c =
    let test = c.loop-j-test.true in
    record {
      chosen = λ f. subst (AreChosen f c.args.x (c.loop-j.j + 1)) (sym c.choose.ensures)
          (chosen_more f c.args.x c.loop-j.j c.loop-j.e c.get.result (c.loop-j.invariant.chosen f) (omega (arith, c.loop-j.invariant.places, c.requires.places)) c.get.ensures);
      places = ap (λ (e : Evaluated). length e.values) c.choose.ensures ∙ length-set c.loop-j.e.values (signal_variable c.loop-j.j) c.get.result ∙ c.loop-j.invariant.places;
    }

pub returns-clause-chosen : goal.returns-clause-chosen
returns-clause-chosen c = λ f.
    let test = c.loop-j-test.false in
    let end = c.loop-j.auto.j-end in
    subst (λ n. AreChosen f c.args.x n c.loop-j.e) (omega arith) (c.loop-j.invariant.chosen f)
