-- Where a specification and a design differ.
use Rattle.std.specs.Prelude.{◌≢◌, ℕ, List, length}
use Rattle.net_defs.specs.Networks.{Network}
use Rattle.net_defs.specs.Evaluation.{SpecOut}
use Rattle.fabric_defs.specs.Bits.{IsBits}
use Rattle.produce.specs.Endings.{AlignedTo, HaveOtherOutputs}

-- where the inputs have the bits x, the design in the specification's order has other outputs
abbrev pub DifferAt : Network → Network → List ℕ → Type 0
DifferAt spec design x = (net : Network) × AlignedTo spec design net × HaveOtherOutputs spec net x

-- where the inputs have the bits x, the specification has the outputs y, and the design in the specification's
-- order has the outputs z, which are others
pub record DifferWith (spec design : Network) (x y z : List ℕ) : Type 0 where
  pub net : Network
  pub aligned : AlignedTo spec design net
  pub width : IsBits (length spec.inputs) x
  pub of_spec : SpecOut spec x y
  pub of_design : SpecOut net x z
  pub other : y ≢ z
