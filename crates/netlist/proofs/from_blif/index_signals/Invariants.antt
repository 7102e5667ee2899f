use Rattle.std.proofs.Common.{take, map}
use Rattle.blif_defs.specs.Values.{signals_of}
use Rattle.blif_read.specs.Views.{cover_of}
use Rattle.netlist.specs.Index.{IsIndexOf}
use Rattle.netlist.proofs.from_blif.index_signals.Given as goal

-- the index has the inputs and the outputs of the covers so far
abbrev pub invariant-loop-v : goal.invariant-loop-v
invariant-loop-v l = IsIndexOf l.index (signals_of l.inputs (take l.v (map cover_of l.covers)))
