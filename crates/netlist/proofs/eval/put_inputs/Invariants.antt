use Rattle.std.proofs.Common.{◌≡◌, length}
use Rattle.netlist.specs.Places.{SameBits}
use Rattle.netlist.proofs.eval.put_inputs.Given as goal

-- the inputs so far have their bits
abbrev pub invariant-loop-i : goal.invariant-loop-i
invariant-loop-i l = record {
  places : length l.s ≡ length l.fn.s;
  inputs : SameBits l.i l.s l.x;
}
