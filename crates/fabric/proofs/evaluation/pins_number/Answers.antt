use Rattle.std.proofs.Common.{◌≡◌, ℕ, ◌+◌, ◌-◌, ◌≤◌, get_or, map, drop, ap, sym, ◌∙◌, arith}
use Rattle.pch_base.specs.BitLists.{word_of}
use Rattle.fabric.proofs.PinLemmas.{bit_of-small, bool_byte-bit_of, word_of-drop, number_more}
use Rattle.fabric.proofs.evaluation.pins_number.Goals as goal

-- one pin more is the lowest bit of the number
pub loop-pin-preserved : goal.loop-pin-preserved
loop-pin-preserved c =
    let pins = c.args.pins.now in
    let f : ℕ → ℕ = λ word. get_or c.args.tracks.now word 0 in
    let pin : ℕ = c.loop-pin.pin in
    let e : pin - 1 + 1 ≡ pin = omega arith in
    let after : word_of (map f (drop (pin - 1 + 1) pins)) ≡ c.loop-pin.number =
    ap (λ m. word_of (map f (drop m pins))) e ∙ sym c.loop-pin.invariant.number in
    let bit : c.from-in-loop-pin.result ≡ f (get_or pins (pin - 1) 0) =
    c.from-in-loop-pin.ensures ∙ bool_byte-bit_of c.get-bit.result ∙ sym c.get-bit.ensures ∙ ap f c.from.ensures in
    let small : c.from-in-loop-pin.result ≤ 1 = omega (arith, bit_of-small c.get-bit.result, bool_byte-bit_of c.get-bit.result) in
    record {
      number = omega (arith, word_of-drop f pins (pin - 1) (omega arith));
      below = number_more c.loop-pin.number c.from-in-loop-pin.result _ pin c.loop-pin.invariant.below small c.loop-pin.auto.pin (omega arith);
    }
