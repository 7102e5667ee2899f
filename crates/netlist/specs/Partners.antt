-- Names and their partners by place, as the steps of `same_interface` find them.
use Rattle.std.specs.Prelude.{◌≡◌, ℕ, List, map, All, Contains, Result, Ok, Err, Vec}
use Rattle.std.specs.declared.alloc.Global.{Global}
use Rattle.net_defs.specs.Names.{IsFirstMissing}
use Rattle.net_defs.specs.Networks.{Output, Network}
use Rattle.net_defs.specs.Nets.{output_names}
use Rattle.net_defs.specs.Interfaces.{StandAt, HaveTheSameNames, InterfaceOf}
use Rattle.net_defs.specs.declared.interface.Side.{Side}
use Rattle.net_defs.specs.declared.interface.Side.TheVariants.{Spec, Design}
use Rattle.net_defs.specs.declared.interface.InterfaceError.{InterfaceError}
use Rattle.netlist.specs.declared.ports.Ports.{Ports}
use Rattle.netlist.specs.declared.ports.Ports.TheVariants.{Inputs, Outputs}
use Rattle.netlist.specs.declared.ports.Unpaired.{Unpaired}
use Rattle.netlist.specs.declared.ports.Unpaired.TheVariants.{Missing, NoMemory}

-- the names of the inputs, or of the outputs
abbrev pub port_names : Ports → List (List ℕ)
port_names (Inputs names) = names.now
port_names (Outputs outputs) = map (λ (o : Output). o.name) outputs.now

-- the places of the wanted names among the names, or the first that isn't there
abbrev pub GivesPlaces : List (List ℕ) → List (List ℕ) → Side → Result (Vec ℕ Global) Unpaired → Type 0
GivesPlaces names wanted side (Ok places) = StandAt names places.items wanted
GivesPlaces names wanted side (Err (Missing other place)) = (other ≡ side) × IsFirstMissing names wanted place
GivesPlaces names wanted side (Err NoMemory) = Unit {0}

-- all of the wanted names are among the names, or the first that isn't there
abbrev pub FindsAll : List (List ℕ) → List (List ℕ) → Side → Result (Unit {0}) Unpaired → Type 0
FindsAll names wanted side (Ok done) = All (Contains names) wanted
FindsAll names wanted side (Err (Missing other place)) = (other ≡ side) × IsFirstMissing names wanted place
FindsAll names wanted side (Err NoMemory) = Unit {0}

-- the places of the partners, or the first name without one
abbrev pub GivesPartners : List (List ℕ) → List (List ℕ) → Result (Vec ℕ Global) Unpaired → Type 0
GivesPartners spec design (Ok places) = StandAt design places.items spec × All (Contains spec) design
GivesPartners spec design (Err (Missing Spec place)) = IsFirstMissing design spec place
GivesPartners spec design (Err (Missing Design place)) = All (Contains design) spec × IsFirstMissing spec design place
GivesPartners spec design (Err NoMemory) = Unit {0}

-- the partners of the inputs, or the interface's first fault
abbrev pub InputsOf : Network → Network → Result (Vec ℕ Global) InterfaceError → Type 0
InputsOf spec design (Ok places) = GivesPartners spec.inputs design.inputs (Ok places)
InputsOf spec design (Err fault) = InterfaceOf spec design (Err fault)

-- the partners of the outputs, or the interface's first fault where the inputs have partners
abbrev pub OutputsOf : Network → Network → Result (Vec ℕ Global) InterfaceError → Type 0
OutputsOf spec design (Ok places) = GivesPartners (output_names spec) (output_names design) (Ok places)
OutputsOf spec design (Err fault) = HaveTheSameNames spec.inputs design.inputs → InterfaceOf spec design (Err fault)
