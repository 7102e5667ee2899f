use Rattle.std.proofs.Common.{◌+◌, ◌<◌, arith, refl, sym, ap, ◌∙◌, get_or, length}
use Rattle.text_defs.specs.Numbers.{at_most, number_from}
use Rattle.sat_scan.specs.Scan.{word_at}
use Rattle.sat_scan.proofs.DigitLemmas.{first_digit, behind_digit, last_digit}
use Rattle.sat_scan.proofs.numbers.positive_at.Goals as goal

-- the word's number is read on from its first digit
pub loop-end-init : goal.loop-end-init
loop-end-init c =
    let text = c.args.text.now in
    let within = c.requires.within in
    let not_end = c.if-at-text.false in
    let lt : c.args.at < length c.args.text.now = grind (arith, within, not_end) in
    let low = c.if-text-at-le48.false in
    let high = c.if-text-at-gt57.false in
    let value = c.from-value.ensures in
    let digits = c.requires.digits in
    record {
      behind = omega arith;
      within = omega arith;
      low = omega arith;
      high = omega arith;
      value = ap (λ n. at_most c.args.max (number_from n (word_at (c.args.at + 1) c.args.text.now))) value
          ∙ first_digit c.args.max c.args.at c.args.text.now (get_or c.args.text.now c.args.at 0) lt refl low high;
      end = behind_digit c.args.at c.args.text.now (get_or c.args.text.now c.args.at 0) lt refl (omega arith) high;
    }

pub returns-then-value-from-clause-value : goal.returns-then-value-from-clause-value
returns-then-value-from-clause-value c =
    let far = c.if-value-from.true in
    let value = c.from-in-loop-end.ensures in
    let digit = c.from.ensures in
    sym (last_digit c.args.max c.loop-end.value c.loop-end.end c.args.text.now (get_or c.args.text.now c.loop-end.end 0)
    c.loop-end-test.true refl c.if-text-end-ge48.true c.if-text-end-le57.true (omega arith))
    ∙ c.loop-end.invariant.value
