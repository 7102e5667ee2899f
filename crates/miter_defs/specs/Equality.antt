-- A network and a configuration that compute the same for every input.
use Rattle.std.specs.Prelude.{◌≡◌, ℕ, ◌≤◌, List, length, take}
use Rattle.net_defs.specs.Networks.{Network}
use Rattle.net_defs.specs.Evaluation.{SpecOut}
use Rattle.fabric_defs.specs.Bits.{IsBits}
use Rattle.fabric_defs.specs.Geometries.{GeometryValue}
use Rattle.fabric_defs.specs.Configurations.{ConfigValue}
use Rattle.fabric_defs.specs.Wirings.{FabOut}

-- the network has a pad for each of its inputs and outputs
pub record FitsPads (net : Network) (g : GeometryValue) : Type 0 where
  pub inputs : length net.inputs ≤ g.input_pads
  pub outputs : length net.outputs ≤ g.output_pads

-- the network fits the pads, and for every input the first output pads have the network's outputs
pub record Equal (net : Network) (config : ConfigValue) : Type 0 where
  pub fits : FitsPads net config.geometry
  pub same : (x y z : List ℕ) → IsBits (length net.inputs) x → SpecOut net x y → FabOut config x z
      → take (length net.outputs) z ≡ y
