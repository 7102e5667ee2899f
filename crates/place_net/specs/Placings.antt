-- The placing of a network: its reference mapping, placed on a fabric.
use Rattle.std.specs.Prelude.{Option, None, Some, Result, Ok, Err}
use Rattle.net_defs.specs.Networks.{Network}
use Rattle.fabric_defs.specs.Geometries.{GeometryValue}
use Rattle.fabric_defs.specs.Configurations.{ConfigValue}
use Rattle.map_defs.specs.Mapped.{MappedValue}
use Rattle.map_defs.specs.Reference.{RefMap}
use Rattle.route_defs.specs.declared.demand.Demand.{Demand}
use Rattle.route_defs.specs.declared.faults.RouteError.{RouteError}
use Rattle.route_defs.specs.declared.faults.RouteError.TheVariants.{Unroutable, NoMemory}
use Rattle.route_defs.specs.Demands.{FirstOverOf}
use Rattle.route_defs.specs.Placed.{PlacedOf}

-- the configuration of this fabric places the reference mapping of the network
abbrev pub Placed : Network → GeometryValue → ConfigValue → Type 0
Placed net g config = (l : MappedValue) × RefMap net l × PlacedOf l g config

-- the first resource of the fabric of which the reference mapping of the network needs more than is there, if any
abbrev pub FirstOver : Network → GeometryValue → Option Demand → Type 0
FirstOver net g over = (l : MappedValue) × RefMap net l × FirstOverOf l g over

-- a placing of the network, where there is enough of everything, or the first resource of which there isn't
abbrev pub PlacingOf : Network → GeometryValue → Result ConfigValue RouteError → Type 0
PlacingOf net g (Ok config) = FirstOver net g None × Placed net g config
PlacingOf net g (Err (Unroutable resource place need have)) =
    FirstOver net g (Some (record { resource = resource; place = place; need = need; have = have }))
PlacingOf net g (Err NoMemory) = ⊥
