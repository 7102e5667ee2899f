-- The network of a BLIF design, or the first fault that keeps it from being one. (BLIF)
use Rattle.std.specs.Prelude.{◌≡◌, ℕ, ◌<◌, List, [], true, length, take, slice_get, slice_index_or, All, Contains, Some, Result, Ok, Err}
use Rattle.std.specs.List.{AllZip}
use Rattle.blif_defs.specs.Values.{CoverValue, BlifValue, signals_of}
use Rattle.net_defs.specs.Names.{IsFirstMissing}
use Rattle.net_defs.specs.Networks.{Node, Output, Network}
use Rattle.net_defs.specs.Settling.{Settled, IsAcyclic}
use Rattle.net_defs.specs.declared.faults.NetError.{NetError}
use Rattle.net_defs.specs.declared.faults.NetError.TheVariants.{UndrivenPin, UndrivenOutput, Cycle, NoMemory}

-- the names of the signals: those of the inputs, and then those of the covers' outputs
abbrev pub signal_names : BlifValue → List (List ℕ)
signal_names b = signals_of b.inputs b.covers

-- the name is that of signal s
abbrev pub IsNameOf : BlifValue → List ℕ → ℕ → Type 0
IsNameOf b name s = slice_get (signal_names b) s ≡ Some name

-- the node has the signals with the names of the cover's inputs, and its rows
pub record IsNodeOf (b : BlifValue) (cover : CoverValue) (node : Node) : Type 0 where
  pub fan_ins : AllZip (IsNameOf b) cover.ins node.fan_ins
  pub on : node.on ≡ cover.on
  pub rows : node.rows ≡ cover.rows

-- the output has this name, and the signal with this name
pub record IsOutputOf (b : BlifValue) (wanted : List ℕ) (output : Output) : Type 0 where
  pub name : output.name ≡ wanted
  pub signal : IsNameOf b wanted output.signal

-- the network has the inputs, the covers and the outputs of the design, with signals in place of names
pub record IsNetworkOf (b : BlifValue) (net : Network) : Type 0 where
  pub inputs : net.inputs ≡ b.inputs
  pub nodes : AllZip (IsNodeOf b) b.covers net.nodes
  pub outputs : AllZip (IsOutputOf b) b.outputs net.outputs

-- what stands past the last cover, where nothing looks
abbrev pub no_cover : CoverValue
no_cover = record { ins = []; out = []; on = true; rows = [] }

-- each input of the cover is the name of a signal
abbrev pub HasDrivenPins : BlifValue → CoverValue → Type 0
HasDrivenPins b cover = All (Contains (signal_names b)) cover.ins

-- by cover and then by pin, this is the first input of a cover that is neither an input nor the output of a cover
pub record IsFirstUndrivenPin (b : BlifValue) (node pin : ℕ) : Type 0 where
  pub within : node < length b.covers
  pub earlier : All (HasDrivenPins b) (take node b.covers)
  pub here : IsFirstMissing (signal_names b) (slice_index_or b.covers node no_cover).ins pin

-- node v is the first that isn't settled
pub record IsFirstUnsettled (net : Network) (v : ℕ) : Type 0 where
  pub within : v < length net.nodes
  pub earlier : (u : ℕ) → u < v → Settled net (length net.nodes) u
  pub here : ¬ Settled net (length net.nodes) v

-- The network of the design, or the first fault that keeps it from being one: a pin comes before an output,
-- and an output before a cycle. Want of memory is no fault of a design.
abbrev pub NetOf : BlifValue → Result Network NetError → Type 0
NetOf b (Ok net) = IsNetworkOf b net × IsAcyclic net
NetOf b (Err (UndrivenPin node pin)) = IsFirstUndrivenPin b node pin
NetOf b (Err (UndrivenOutput place)) =
    All (HasDrivenPins b) b.covers × IsFirstMissing (signal_names b) b.outputs place
NetOf b (Err (Cycle node)) = (net : Network) × IsNetworkOf b net × IsFirstUnsettled net node
NetOf b (Err NoMemory) = ⊥
