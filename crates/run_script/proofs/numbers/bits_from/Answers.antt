use Rattle.std.proofs.Common.{length, refl, ap, ◌∙◌}
use Rattle.pch_base.specs.BitWords.{length-bits_of}
use Rattle.run_script.proofs.numbers.bits_from.Goals as goal

-- before the first byte
pub loop-i-init : goal.loop-i-init
loop-i-init c = record { count = ap length c.new-bits.ensures ∙ length-bits_of (length c.args.word.now) 0; read = refl }
