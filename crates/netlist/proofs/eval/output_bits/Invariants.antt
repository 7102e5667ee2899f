use Rattle.std.proofs.Common.{◌≡◌, length, map, take, slice_index}
use Rattle.net_defs.specs.Networks.{Output}
use Rattle.netlist.proofs.eval.output_bits.Given as goal

-- the outputs so far have the bits of their signals
abbrev pub invariant-loop-o : goal.invariant-loop-o
invariant-loop-o l = record {
  all : length l.bits ≡ length l.outputs;
  done : take l.o l.bits ≡ map (λ (o : Output). slice_index l.s o.signal) (take l.o l.outputs);
}
