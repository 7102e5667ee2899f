use Rattle.std.proofs.Common.{take, map}
use Rattle.std.specs.List.{AllZip}
use Rattle.blif_defs.specs.Values.{BlifValue}
use Rattle.blif_read.specs.Views.{cover_of}
use Rattle.net_defs.specs.NetOf.{signal_names, IsNodeOf}
use Rattle.netlist.specs.Index.{IsIndexOf}
use Rattle.netlist.proofs.from_blif.nodes_of.Given as goal

-- the nodes so far are those of the covers
abbrev pub invariant-loop-v : goal.invariant-loop-v
invariant-loop-v l = (b : BlifValue) → IsIndexOf l.index (signal_names b) → AllZip (IsNodeOf b) (take l.v (map cover_of l.covers)) l.nodes.items
