use Rattle.std.proofs.Common.{if◌then◌else◌, sym, subst, arith}
use Rattle.fabric_defs.specs.Bits.{IsBits}
use Rattle.tree_refute.proofs.BranchLemmas.{half_bits, zero_bits}
use Rattle.produce.proofs.ComparingLemmas.{bit_small, values_more}
use Rattle.produce.proofs.learning.inputs_at.Goals as goal

-- there are as many bits as inputs
pub loop-i-init : goal.loop-i-init
loop-i-init c = record {
  bits = subst (IsBits c.args.inputs) (sym c.new-x.ensures) (zero_bits c.args.inputs);
  values = λ i lt. absurd (omega arith);
}

-- one bit more is that of its variable
pub loop-i-preserved : goal.loop-i-preserved
loop-i-preserved c =
    let test = c.loop-i-test.true in
    let count = c.loop-i.invariant.bits.count in
    record {
      bits = half_bits c.args.inputs c.loop-i.x c.with-x.result c.loop-i.i (if c.value.result then 1 else 0) c.with-x.ensures (bit_small c.value.result) c.loop-i.invariant.bits;
      values = values_more c.args.solver.now.trail.lits c.loop-i.x c.with-x.result c.loop-i.i c.value.result (omega arith) c.with-x.ensures
          c.loop-i.invariant.values c.value.ensures;
    }
