-- Networks whose inputs and outputs pair by their names.
use Rattle.std.specs.Prelude.{◌≡◌, ℕ, ◌<◌, List, length, slice_get, slice_index, All, Contains, Some, Result, Ok, Err}
use Rattle.std.specs.List.{AllZip}
use Rattle.net_defs.specs.Names.{IsFirstMissing}
use Rattle.net_defs.specs.Networks.{Network}
use Rattle.net_defs.specs.Nets.{output_names}
use Rattle.net_defs.specs.declared.interface.Side.TheVariants.{Spec, Design}
use Rattle.net_defs.specs.declared.interface.InterfaceError.{InterfaceError}
use Rattle.net_defs.specs.declared.interface.InterfaceError.TheVariants.{Input, Output as OutputError, NoMemory}

-- for each place of the specification the place of its partner in the design
pub record PlacePairs : Type 0 where
  pub inputs : List ℕ
  pub outputs : List ℕ

-- what stands at these places of a list
abbrev pub StandAt : {X : Type 0} → List X → List ℕ → List X → Type 0
StandAt list places found = AllZip (λ p x. slice_get list p ≡ Some x) places found

-- every name of either list is one of the other
abbrev pub HaveTheSameNames : List (List ℕ) → List (List ℕ) → Type 0
HaveTheSameNames names others = All (Contains others) names × All (Contains names) others

-- the partners have the same names, and nothing is without a partner
pub record IsPairing (spec design : Network) (p : PlacePairs) : Type 0 where
  pub inputs : StandAt design.inputs p.inputs spec.inputs
  pub outputs : StandAt (output_names design) p.outputs (output_names spec)
  pub all_inputs : All (Contains spec.inputs) design.inputs
  pub all_outputs : All (Contains (output_names spec)) (output_names design)

-- The pairing of two networks by names, or the first name without a partner: an input of the specification, an
-- input of the design, an output of the specification, an output of the design, by place.
abbrev pub InterfaceOf : Network → Network → Result PlacePairs InterfaceError → Type 0
InterfaceOf spec design (Ok p) = IsPairing spec design p
InterfaceOf spec design (Err (Input Spec place)) = IsFirstMissing design.inputs spec.inputs place
InterfaceOf spec design (Err (Input Design place)) =
    All (Contains design.inputs) spec.inputs × IsFirstMissing spec.inputs design.inputs place
InterfaceOf spec design (Err (OutputError Spec place)) =
    HaveTheSameNames spec.inputs design.inputs × IsFirstMissing (output_names design) (output_names spec) place
InterfaceOf spec design (Err (OutputError Design place)) =
    HaveTheSameNames spec.inputs design.inputs
    × All (Contains (output_names design)) (output_names spec)
    × IsFirstMissing (output_names spec) (output_names design) place
InterfaceOf spec design (Err NoMemory) = ⊥

-- the places 0 to n - 1, each once, in some order
pub record IsRearrangement (n : ℕ) (places : List ℕ) : Type 0 where
  pub as_many : length places ≡ n
  pub within : All (λ k. k < n) places
  pub distinct : (i j : ℕ) → i < j → j < n → slice_index places i ≡ slice_index places j → ⊥
  pub complete : (k : ℕ) → k < n → Contains places k

-- each place of the network is the partner of one place
pub record Pairs (design : Network) (p : PlacePairs) : Type 0 where
  pub inputs : IsRearrangement (length design.inputs) p.inputs
  pub outputs : IsRearrangement (length design.outputs) p.outputs
