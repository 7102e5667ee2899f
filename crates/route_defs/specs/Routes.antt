-- The answer to mapped cells and a fabric: a configuration, or the first resource that is wanting.
use Rattle.std.specs.Prelude.{Some, None, Result, Ok, Err}
use Rattle.fabric_defs.specs.Geometries.{GeometryValue}
use Rattle.fabric_defs.specs.Configurations.{ConfigValue}
use Rattle.map_defs.specs.Mapped.{MappedValue}
use Rattle.route_defs.specs.declared.faults.RouteError.{RouteError}
use Rattle.route_defs.specs.declared.faults.RouteError.TheVariants.{Unroutable, NoMemory}
use Rattle.route_defs.specs.Demands.{FirstOverOf}
use Rattle.route_defs.specs.Placed.{PlacedOf}

-- A configuration that places the cells comes exactly where there is enough of each resource; else the
-- first of which more is needed than is there.
abbrev pub RouteOf : MappedValue → GeometryValue → Result ConfigValue RouteError → Type 0
RouteOf l g (Ok config) = FirstOverOf l g None × PlacedOf l g config
RouteOf l g (Err (Unroutable resource place need have)) =
    FirstOverOf l g (Some (record { resource = resource; place = place; need = need; have = have }))
RouteOf l g (Err NoMemory) = ⊥
