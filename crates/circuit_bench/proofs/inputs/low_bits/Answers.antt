use Rattle.std.proofs.Common.{length, ap, ◌∙◌}
use Rattle.pch_base.specs.BitWords.{length-bits_of}
use Rattle.circuit_bench.proofs.inputs.low_bits.Goals as goal

-- there is a bit for each place
pub returns : goal.returns
returns c = ap length c.new-2.ensures ∙ length-bits_of c.args.len _
