use Rattle.std.proofs.Common.{◌-◌, ◌<◌, bit_and, ap, ◌∙◌, arith}
use Rattle.std.proofs.lemmas.Nat.{and_mask, one_shl}
use Rattle.slot_core.proofs.cycle.low_bits.Goals as goal

pub returns-else-count-eq64 : goal.returns-else-count-eq64
returns-else-count-eq64 c =
    let below : c.args.count < 64 = omega arith in
    ap (λ m. bit_and c.args.word (m - 1)) (one_shl c.args.count 64 below) ∙ and_mask c.args.word c.args.count
