use Rattle.std.proofs.Common.{◌≡◌, ◌≤◌, ℕ, ◌+◌, ◌-◌, length, get_or, map, drop, ap, sym, ◌∙◌, subst, arith}
use Rattle.pch_base.specs.BitLists.{word_of}
use Rattle.clause_defs.specs.Clauses.{Has}
use Rattle.cell_defs.specs.declared.source.Source.{Source}
use Rattle.cell_defs.specs.declared.source.Source.TheVariants.{Zero}
use Rattle.fabric.proofs.PinLemmas.{number_more}
use Rattle.log_laws.proofs.TraceOfLemmas.{Has-get_or}
use Rattle.leaf_defs.specs.Evaluated.{value_of}
use Rattle.miter_cnf.specs.Circuits.{Circuits}
use Rattle.miter_values.specs.Parts.{source_value, bit_of}
use Rattle.miter_values.proofs.CellLemmas.{word_of-drop, source_below, bool_byte-is, bit_of-le}
use Rattle.miter_values.proofs.values.MiterValues.word.Goals as goal

pub source-requires-clause-inside : goal.source-requires-clause-inside
source-requires-clause-inside c = λ k e.
    let low = c.loop-pin-test.true in
    let high = c.loop-pin.auto.pin in
    c.requires.inside.inside k (subst (Has c.args.pins.now) e (Has-get_or c.args.pins.now (c.loop-pin.pin - 1) Zero (omega arith)))

pub value-bit-requires : goal.value-bit-requires
value-bit-requires c =
    let some = c.self.invariant.numbered.circuits.is_net.outputs_some in
    let own = ap (λ (t : Circuits). length t.net.outputs) c.self.view_is in
    let below = source_below c.args.self.now (get_or c.args.pins.now (c.loop-pin.pin - 1) Zero) (omega arith) in
    omega (arith, c.requires.places, c.source.ensures)

pub loop-pin-preserved : goal.loop-pin-preserved
loop-pin-preserved c =
    let pins = c.args.pins.now in
    let f : Source → ℕ = source_value c.args.self.now.net c.args.self.now.cells c.args.e.now in
    let pin : ℕ = c.loop-pin.pin in
    let low = c.loop-pin-test.true in
    let high = c.loop-pin.auto.pin in
    let e : pin - 1 + 1 ≡ pin = omega arith in
    let after : word_of (map f (drop (pin - 1 + 1) pins)) ≡ c.loop-pin.word = ap (λ m. word_of (map f (drop m pins))) e ∙ sym c.loop-pin.invariant.word in
    let bit : c.from.result ≡ f (get_or pins (pin - 1) Zero) =
    c.from.ensures ∙ bool_byte-is c.value-bit.result ∙ ap bit_of (c.value-bit.ensures ∙ ap (value_of c.args.e.now.values) c.source.ensures) in
    let small : c.from.result ≤ 1 = omega (arith, bit_of-le c.value-bit.result, bool_byte-is c.value-bit.result, c.from.ensures) in
    record {
      word = omega (arith, word_of-drop f pins (pin - 1) Zero (omega arith));
      below = number_more c.loop-pin.word c.from.result (length pins) pin c.loop-pin.invariant.below small (omega arith) (omega arith);
    }
