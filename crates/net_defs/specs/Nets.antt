-- What every net keeps: it is within the limits, and the inputs determine each of its nodes.
use Rattle.std.specs.Prelude.{ℕ, ◌<◌, ◌≤◌, ◌≡◌, true, List, [], length, map, sum_by, All}
use Rattle.std.specs.List.{IsDistinct}
use Rattle.std.specs.Str.{bytes_eq}
pub use Rattle.blif_defs.specs.Values.{rows_size}
use Rattle.blif_defs.specs.declared.mark.TheConstants.{MAX_BYTES, MAX_PORTS, MAX_SIGNALS}
use Rattle.net_defs.specs.Networks.{Node, Output, Network, signals}
use Rattle.net_defs.specs.Settling.{IsAcyclic}

-- how many rows all nodes have together
abbrev pub row_count : Network → ℕ
row_count net = sum_by (λ (node : Node). length node.rows) net.nodes

-- the names of the outputs, in their order
abbrev pub output_names : Network → List (List ℕ)
output_names net = map (λ (o : Output). o.name) net.outputs

-- a node of a network with so many signals; one without rows is on, so that its bit is 0
pub record IsNode (signal_count : ℕ) (node : Node) : Type 0 where
  pub fan_ins_within : length node.fan_ins ≤ MAX_PORTS
  pub fan_ins : All (λ s. s < signal_count) node.fan_ins
  pub rows : All (λ row. length row ≡ length node.fan_ins) node.rows
  pub on : node.rows ≡ [] → node.on ≡ true

-- a network is within the limits, its names differ, and the inputs determine each of its nodes
pub record IsNet (net : Network) : Type 0 where
  pub inputs_within : length net.inputs ≤ MAX_PORTS
  pub inputs_differ : IsDistinct bytes_eq net.inputs
  pub outputs_some : 1 ≤ length net.outputs
  pub outputs_within : length net.outputs ≤ MAX_PORTS
  pub outputs_differ : IsDistinct bytes_eq (output_names net)
  pub output_signals : All (λ (o : Output). o.signal < signals net) net.outputs
  pub signals_within : signals net ≤ MAX_SIGNALS
  pub nodes : All (IsNode (signals net)) net.nodes
  pub rows_within : sum_by (λ (node : Node). rows_size node.rows) net.nodes ≤ MAX_BYTES
  pub acyclic : IsAcyclic net
