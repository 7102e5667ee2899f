use Rattle.std.proofs.Common.{◌≡◌, ◌+◌, ℕ, Result, length, ap, sym, ◌∙◌, subst, arith}
use Rattle.log_laws.proofs.LogLemmas.{extends_refl}
use Rattle.leaf_defs.specs.Evaluated.{IsFalseAmong}
use Rattle.leaf_chain.proofs.RunningLemmas.{evaluated_few}
use Rattle.miter_cnf.specs.Circuits.{Circuits, AreCircuits}
use Rattle.miter_defs.specs.Numberings.{variable_count}
use Rattle.miter_places.specs.Places.{number_of_last}
use Rattle.miter_values.specs.Parts.{circuits_of, HasInputs, IsSameAt, IsOtherAt}
use Rattle.tree_defs.specs.declared.tree_end.TreeEnd.{TreeEnd}
use Rattle.tree_refute.specs.Branches.{BranchEnds, most_words}
use Rattle.tree_refute.proofs.Differing.{differs_at}
use Rattle.tree_refute.proofs.BranchLemmas.{evaluated_in, last_in, leaf_ends}
use Rattle.tree_refute.proofs.search.Search.leaf.Goals as goal

pub returns-in-Some-clause-ends : goal.returns-in-Some-clause-ends
returns-in-Some-clause-ends c =
    let t = c.args.self.now in
    let e = c.evaluate.new.e in
    let are = subst (λ (u : Circuits). AreCircuits u.net u.cells) c.self.view_is c.self.invariant.are in
    let inputs = subst (λ (u : Circuits). HasInputs u.net c.args.x e) c.self.view_is c.evaluate.ensures.inputs in
    let other = subst (λ (u : Circuits). IsOtherAt u e c.in-Some._output) c.self.view_is c.in-Some.ensures.some in (
      extends_refl c.args.log.now,
      λ config is_config of.
          differs_at t config c.args.x e are is_config of c.requires.bits inputs other.evaluated c.in-Some._output other.differ,
    )

pub derive_chosen-requires-clause-evaluated : goal.derive_chosen-requires-clause-evaluated
derive_chosen-requires-clause-evaluated c =
    let t = c.args.self.now in
    let e = c.evaluate.new.e in
    let same = subst (λ (u : Circuits). IsSameAt u e) c.self.view_is c.in_default.ensures.none in
    evaluated_in t c.args.log.now e c.requires.miter same.evaluated

pub derive_chosen-requires-clause-all_false : goal.derive_chosen-requires-clause-all_false
derive_chosen-requires-clause-all_false c =
    let t = c.args.self.now in
    let e = c.evaluate.new.e in
    let same = subst (λ (u : Circuits). IsSameAt u e) c.self.view_is c.in_default.ensures.none in
    let at = c.self.invariant.last_is ∙ ap (λ (u : Circuits). number_of_last u.net u.cells) c.self.view_is in
    subst (IsFalseAmong e.values e.order) (sym (last_in t c.args.log.now c.self.inside.last c.requires.miter at).1) same.last_false

pub returns-clause-ends : goal.returns-clause-ends
returns-clause-ends c =
    let t = c.args.self.now in
    let e = c.evaluate.new.e in
    let inputs = subst (λ (u : Circuits). HasInputs u.net c.args.x e) c.self.view_is c.evaluate.ensures.inputs in
    let same = subst (λ (u : Circuits). IsSameAt u e) c.self.view_is c.in_default.ensures.none in
    let places : length e.values ≡ variable_count t.net t.cells + 1 =
    c.evaluate.ensures.places ∙ c.self.invariant.places ∙ ap (λ (u : Circuits). variable_count u.net u.cells + 1) c.self.view_is in
    let few = evaluated_few (circuits_of t.net t.cells) e same.evaluated (omega arith) in
    subst (λ (r : Result ℕ TreeEnd). BranchEnds t c.args.x (length t.net.inputs) (most_words t) c.args.log.now r c.derive_chosen.new.log) (sym c.ended.ensures)
    (leaf_ends t c.args.x (length t.net.inputs) e c.args.log.now c.derive_chosen.new.log c.derive_chosen.result inputs.chosen inputs.order inputs.bits
    (omega arith) c.derive_chosen.ensures.ends)
