use Rattle.std.proofs.Common.{◌≡◌, true, get_or, arith, sym}
use Rattle.std.specs.Char.{is_ascii_digit}
use Rattle.pch_base.proofs.NumberLemmas.{at_most-above}
use Rattle.pch_base.proofs.numbers.read_digits.Goals as goal
use Rattle.pch_base.proofs.numbers.read_digits.Goals.{then-n-max-via-then-n-max, then-n-max-via-else-n-max+then-digit-max}

-- digits that make a number above the greatest spell none within it
pub returns-then-n-max : goal.returns-then-n-max
returns-then-n-max c =
    let digit : is_ascii_digit (get_or c.args.text.now c.loop-b.b-index 0) ≡ true = sym c.if-not-is_ascii_digit.ensures.value in
    elim c.then-n-max.branch [
      | then-n-max-via-then-n-max w ↦ at_most-above c.args.max c.loop-b.n c.loop-b.b-index c.args.text.now (omega arith) digit (omega arith) c.loop-b.invariant.read
      | then-n-max-via-else-n-max+then-digit-max w ↦ at_most-above c.args.max c.loop-b.n c.loop-b.b-index c.args.text.now (omega arith) digit (omega arith) c.loop-b.invariant.read
    ]
