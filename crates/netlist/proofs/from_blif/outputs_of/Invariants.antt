use Rattle.std.proofs.Common.{take}
use Rattle.std.specs.List.{AllZip}
use Rattle.blif_defs.specs.Values.{BlifValue}
use Rattle.net_defs.specs.NetOf.{signal_names, IsOutputOf}
use Rattle.netlist.specs.Index.{IsIndexOf}
use Rattle.netlist.proofs.from_blif.outputs_of.Given as goal

-- the outputs so far are those of the design
abbrev pub invariant-loop-o : goal.invariant-loop-o
invariant-loop-o l = (b : BlifValue) → IsIndexOf l.index (signal_names b) → AllZip (IsOutputOf b) (take l.o l.names) l.outputs.items
