use Rattle.std.proofs.Common.{◌≡◌, ℕ, ◌≤◌, length, slice_index}
use Rattle.fabric_defs.specs.Wirings.{pad_bit}
use Rattle.eval_lanes.proofs.evaluation.put_inputs.Given as goal

abbrev pub invariant-loop-pad : goal.invariant-loop-pad
invariant-loop-pad l = record {
  places : length l.values ≡ length l.fn.values;
  done : (p : ℕ) → p ≤ l.pad → slice_index l.values p ≡ pad_bit l.inputs p;
}
