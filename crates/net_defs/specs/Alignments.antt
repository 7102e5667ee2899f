-- A network whose inputs and outputs are put into the order of another, and what it computes.
use Rattle.std.specs.Prelude.{◌≡◌, ◌↔◌, ℕ, ◌≤◌, ◌⊎◌, List, length, slice_get, Some}
use Rattle.std.specs.List.{AllZip}
use Rattle.net_defs.specs.Networks.{Node, Output, Network}
use Rattle.net_defs.specs.Evaluation.{SpecOut}
use Rattle.net_defs.specs.Interfaces.{PlacePairs, StandAt}

-- signal s of a network is signal t once its inputs, which are as many as the places, stand in the order of
-- their partners: input `places t` comes to place t, and nodes keep their signals
abbrev pub IsMoved : List ℕ → ℕ → ℕ → Type 0
IsMoved places s t = (slice_get places t ≡ Some s) ⊎ ((length places ≤ s) × (t ≡ s))

-- the node with its fan-ins moved
pub record IsMovedNode (places : List ℕ) (node moved : Node) : Type 0 where
  pub fan_ins : AllZip (IsMoved places) node.fan_ins moved.fan_ins
  pub on : moved.on ≡ node.on
  pub rows : moved.rows ≡ node.rows

-- the output with its signal moved
pub record IsMovedOutput (places : List ℕ) (output moved : Output) : Type 0 where
  pub name : moved.name ≡ output.name
  pub signal : IsMoved places output.signal moved.signal

-- this is output k of the design, moved
abbrev pub IsOutputFrom : List Output → List ℕ → ℕ → Output → Type 0
IsOutputFrom outputs places k moved =
    (output : Output) × (slice_get outputs k ≡ Some output) × IsMovedOutput places output moved

-- the same nodes, with inputs and outputs in the order of their partners
pub record IsAligned (design : Network) (p : PlacePairs) (net : Network) : Type 0 where
  pub inputs : StandAt design.inputs p.inputs net.inputs
  pub nodes : AllZip (IsMovedNode p.inputs) design.nodes net.nodes
  pub outputs : AllZip (IsOutputFrom design.outputs p.inputs) p.outputs net.outputs

-- the values of as many places, in the order of their partners
pub record IsReordered (places values reordered : List ℕ) : Type 0 where
  pub as_many : length values ≡ length places
  pub stand : StandAt values places reordered

-- At the same input bits, x in the specification's order and u in the design's, both networks have the same
-- output bits, y in the specification's order and v in the design's.
abbrev pub HasOutputsOf : Network → PlacePairs → Network → Type 0
HasOutputsOf design p net =
    (x y u v : List ℕ) → IsReordered p.inputs u x → IsReordered p.outputs v y → (SpecOut net x y ↔ SpecOut design u v)
