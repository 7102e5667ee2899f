use Rattle.std.proofs.Common.{[], ◌∷◌, false, inl, inr, refl, sym, arith}
use Rattle.leaf_chain.specs.Growing.{IsWithout}
use Rattle.leaf_defs.specs.Evaluated.{clause_numbered}
use Rattle.miter_defs.specs.Numberings.{zero_variable}
use Rattle.miter_defs.specs.Miters.{literal, negative}
use Rattle.miter_values.specs.Growing.{IsForced}
use Rattle.miter_values.specs.Parts.{circuits_of}
use Rattle.miter_values.proofs.GrowLemmas.{forced_set, grows_by}
use Rattle.miter_values.proofs.values.MiterValues.evaluate_zero.Goals as goal

pub returns : goal.returns
returns c =
    let t = c.args.self.now in
    let f = circuits_of t.net t.cells in
    let own : IsForced c.args.e.now (literal zero_variable false) (negative zero_variable ∷ []) = record {
      implied = inl refl;
      others = λ m here. elim here [ inl same ↦ inl (sym same) | inr none ↦ absurd none ];
    } in
    let forced : IsForced c.args.e.now (literal zero_variable false) (clause_numbered f 1) =
    forced_set c.args.e.now (literal zero_variable false) (negative zero_variable ∷ []) own in
    let without : IsWithout c.args.e.now zero_variable = record {
      low = omega arith;
      high = omega (arith, c.requires.valued.places);
      fresh = c.requires.fresh;
    } in
    (grows_by f c.args.e.now c.imply.new.self zero_variable zero_variable 1 false c.imply.ensures refl c.requires.valued.evaluated without (omega arith) (omega arith) forced).0
