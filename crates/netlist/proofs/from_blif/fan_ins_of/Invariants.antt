use Rattle.std.proofs.Common.{take}
use Rattle.std.specs.List.{AllZip}
use Rattle.blif_defs.specs.Values.{BlifValue}
use Rattle.net_defs.specs.NetOf.{signal_names, IsNameOf}
use Rattle.netlist.specs.Index.{IsIndexOf}
use Rattle.netlist.proofs.from_blif.fan_ins_of.Given as goal

-- the signals so far are those with the names of the pins
abbrev pub invariant-loop-pin : goal.invariant-loop-pin
invariant-loop-pin l = (b : BlifValue) → IsIndexOf l.index (signal_names b) → AllZip (IsNameOf b) (take l.pin l.ins) l.signals.items
