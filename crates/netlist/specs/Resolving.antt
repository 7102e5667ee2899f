-- What the steps of `build` answer: a part of the network, or the fault that keeps it from being made.
use Rattle.std.specs.Prelude.{◌≡◌, ℕ, List, Result, Ok, Err, Vec}
use Rattle.std.specs.List.{AllZip}
use Rattle.std.specs.declared.alloc.Global.{Global}
use Rattle.blif_defs.specs.Values.{CoverValue, BlifValue}
use Rattle.net_defs.specs.Names.{IsFirstMissing}
use Rattle.net_defs.specs.Networks.{Node, Output, Network}
use Rattle.net_defs.specs.NetOf.{signal_names, IsNameOf, IsNodeOf, IsOutputOf, IsNetworkOf, IsFirstUndrivenPin, NetOf}
use Rattle.net_defs.specs.declared.faults.NetError.{NetError}
use Rattle.net_defs.specs.declared.faults.NetError.TheVariants.{UndrivenPin, UndrivenOutput}

-- the fault is the first of these inputs of cover `node` that is undriven
abbrev pub IsPinFault : BlifValue → List (List ℕ) → ℕ → NetError → Type 0
IsPinFault b ins node fault = (pin : ℕ) × (fault ≡ UndrivenPin node pin) × IsFirstMissing (signal_names b) ins pin

-- the signals with the names of the inputs of cover `node`, or the first of these inputs that is undriven
abbrev pub FanInsOf : BlifValue → List (List ℕ) → ℕ → Result (Vec ℕ Global) NetError → Type 0
FanInsOf b ins node (Ok signals) = AllZip (IsNameOf b) ins signals.items
FanInsOf b ins node (Err fault) = IsPinFault b ins node fault

-- the node of cover `node`
abbrev pub NodeOf : BlifValue → CoverValue → ℕ → Result Node NetError → Type 0
NodeOf b cover node (Ok made) = IsNodeOf b cover made
NodeOf b cover node (Err fault) = IsPinFault b cover.ins node fault

-- the nodes of all covers
abbrev pub NodesOf : BlifValue → Result (Vec Node Global) NetError → Type 0
NodesOf b (Ok nodes) = AllZip (IsNodeOf b) b.covers nodes.items
NodesOf b (Err fault) = (node : ℕ) × (pin : ℕ) × (fault ≡ UndrivenPin node pin) × IsFirstUndrivenPin b node pin

-- the outputs
abbrev pub OutputsOf : BlifValue → Result (Vec Output Global) NetError → Type 0
OutputsOf b (Ok outputs) = AllZip (IsOutputOf b) b.outputs outputs.items
OutputsOf b (Err fault) = (place : ℕ) × (fault ≡ UndrivenOutput place) × IsFirstMissing (signal_names b) b.outputs place

-- the whole network, acyclic or not
abbrev pub NetworkOf : BlifValue → Result Network NetError → Type 0
NetworkOf b (Ok net) = IsNetworkOf b net
NetworkOf b (Err fault) = NetOf b (Err fault)
