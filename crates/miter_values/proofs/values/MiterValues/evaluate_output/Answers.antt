use Rattle.std.proofs.Common.{◌≡◌, ◌+◌, ◌*◌, ◌<◌, ℕ, false, length, ap, sym, ◌∙◌, subst, arith}
use Rattle.miter_cnf.specs.Circuits.{Circuits}
use Rattle.clause_defs.specs.Clauses.{Has}
use Rattle.leaf_defs.specs.Evaluated.{Evaluated}
use Rattle.miter_defs.specs.Numberings.{difference_variable, variable_count}
use Rattle.leaf_chain.specs.Growing.{IsWithout, with_implied}
use Rattle.miter_places.specs.Places.{PlacesValue, first_of_output}
use Rattle.miter_values.specs.Parts.{circuits_of, bit_of}
use Rattle.miter_values.proofs.GrowLemmas.{grows_by}
use Rattle.miter_values.proofs.CellLemmas.{bool_byte-is}
use Rattle.miter_values.proofs.OutputLemmas.{output_step}
use Rattle.miter_values.proofs.values.MiterValues.evaluate_output.Goals as goal

pub overflow_add-number : goal.overflow_add-number
overflow_add-number c =
    let t = c.args.self.now in
    let few = ap (λ (u : Circuits). length (circuits_of u.net u.cells)) c.self.view_is in
    let at : c.outputs.result ≡ first_of_output t.net t.cells 0 =
    c.outputs.ensures ∙ ap (λ (p : PlacesValue). p.outputs) c.self.invariant.places ∙ ap (λ (u : Circuits). first_of_output u.net u.cells 0) c.self.view_is in
    let step = output_step t c.args.o c.outputs.result c.args.e.now c.args.value c.requires.output at c.requires.signal c.requires.source c.requires.first c.requires.second in
    let most = step.0 in
    omega (arith, c.self.invariant.few)

pub overflow_add-number-2 : goal.overflow_add-number-2
overflow_add-number-2 c =
    let t = c.args.self.now in
    let few = ap (λ (u : Circuits). length (circuits_of u.net u.cells)) c.self.view_is in
    let at : c.outputs.result ≡ first_of_output t.net t.cells 0 =
    c.outputs.ensures ∙ ap (λ (p : PlacesValue). p.outputs) c.self.invariant.places ∙ ap (λ (u : Circuits). first_of_output u.net u.cells 0) c.self.view_is in
    let step = output_step t c.args.o c.outputs.result c.args.e.now c.args.value c.requires.output at c.requires.signal c.requires.source c.requires.first c.requires.second in
    let most = step.0 in
    let bit = c.from.ensures ∙ bool_byte-is c.args.value in
    omega (arith, c.self.invariant.few)

-- the difference has no value yet
without : (c : Circuits) (e : Evaluated) (o : ℕ) → o < length c.net.outputs → length e.values ≡ variable_count c.net c.cells + 1
    → (Has e.order (difference_variable c.net c.cells o) → ⊥) → IsWithout e (difference_variable c.net c.cells o)
without c e o lt places fresh = record { low = omega arith; high = omega arith; fresh = fresh }

pub imply-requires : goal.imply-requires
imply-requires c =
    let variable = c.difference.ensures.variable c.self.inside.net.now c.self.inside.cells.now c.self.invariant.numbered.numbering
    ∙ ap (λ (u : Circuits). difference_variable u.net u.cells c.args.o) c.self.view_is in
    subst (IsWithout c.args.e.now) (sym variable) (without c.args.self.now c.args.e.now c.args.o c.requires.output c.requires.valued.places c.requires.fresh)

pub returns : goal.returns
returns c =
    let t = c.args.self.now in
    let at : c.outputs.result ≡ first_of_output t.net t.cells 0 =
    c.outputs.ensures ∙ ap (λ (p : PlacesValue). p.outputs) c.self.invariant.places ∙ ap (λ (u : Circuits). first_of_output u.net u.cells 0) c.self.view_is in
    let step = output_step t c.args.o c.outputs.result c.args.e.now c.args.value c.requires.output at c.requires.signal c.requires.source c.requires.first c.requires.second in
    let bit : c.from.result ≡ bit_of c.args.value = c.from.ensures ∙ bool_byte-is c.args.value in
    let variable = c.difference.ensures.variable c.self.inside.net.now c.self.inside.cells.now c.self.invariant.numbered.numbering
    ∙ ap (λ (u : Circuits). difference_variable u.net u.cells c.args.o) c.self.view_is in
    let both = grows_by (circuits_of t.net t.cells) c.args.e.now c.imply.new.self (difference_variable t.net t.cells c.args.o) c.difference.result
    (c.outputs.result + 4 * c.args.o + bit_of c.args.value) false
    (c.imply.ensures ∙ ap (λ n. with_implied c.args.e.now c.difference.result false (c.outputs.result + 4 * c.args.o + n)) bit)
    variable c.requires.valued.evaluated (without t c.args.e.now c.args.o c.requires.output c.requires.valued.places c.requires.fresh) (omega arith) step.0 step.1 in
    record { grows = both.0; value = both.1 }
