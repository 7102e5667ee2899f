-- An order of evaluation: each node once, after those among its fan-ins.
use Rattle.std.specs.Prelude.{ℕ, ◌-◌, ◌<◌, ◌⊎◌, List, length, take, slice_index, All, Contains}
use Rattle.net_defs.specs.Networks.{Network, node_at}
use Rattle.net_defs.specs.Interfaces.{IsRearrangement}

-- signal s is an input, or a node of the list
abbrev pub IsKnown : Network → List ℕ → ℕ → Type 0
IsKnown net nodes s = (s < length net.inputs) ⊎ Contains nodes (s - length net.inputs)

-- each node of the list comes after those among its fan-ins
abbrev pub ComesAfterFanIns : Network → List ℕ → Type 0
ComesAfterFanIns net order =
    (j : ℕ) → j < length order → All (IsKnown net (take j order)) (node_at net (slice_index order j)).fan_ins

-- the list has each node once, and each after those among its fan-ins
pub record IsOrder (net : Network) (order : List ℕ) : Type 0 where
  pub nodes : IsRearrangement (length net.nodes) order
  pub after : ComesAfterFanIns net order
