-- Demands in the order in which they are tested, and the refusal of the first that is over.
use Rattle.std.specs.Prelude.{◌≡◌, ℕ, List, [], ◌∷◌, ◌++◌, length, slice_index, Some}
use Rattle.fabric_defs.specs.Numbered.{joined}
use Rattle.fabric_defs.specs.Geometries.{GeometryValue}
use Rattle.map_defs.specs.Mapped.{MappedValue}
use Rattle.route_defs.specs.declared.demand.Demand.{Demand}
use Rattle.route_defs.specs.declared.demand.Resource.TheVariants.{InputPads, OutputPads, Columns, Cells, Tracks}
use Rattle.route_defs.specs.declared.faults.RouteError.{RouteError}
use Rattle.route_defs.specs.declared.faults.RouteError.TheVariants.{Unroutable, NoMemory}
use Rattle.route_defs.specs.Demands.{columns_used, first_over}

-- the refusal names the first of these demands that is over
abbrev pub Refuses : List Demand → RouteError → Type 0
Refuses demands (Unroutable resource place need have) =
    first_over demands ≡ Some (record { resource = resource; place = place; need = need; have = have })
Refuses demands NoMemory = ⊥

-- what is needed of pads and of the columns together
abbrev pub fabric_demands : MappedValue → GeometryValue → List ℕ → List Demand
fabric_demands l g columns =
    record { resource = InputPads; place = 0; need = l.inputs; have = g.input_pads }
    ∷ record { resource = OutputPads; place = 0; need = length l.outputs; have = g.output_pads }
    ∷ record { resource = Columns; place = 0; need = columns_used columns; have = g.columns }
    ∷ []

-- what is needed of a column and of the channel before it, by the counts of cells and live signals
abbrev pub listed_pair : GeometryValue → List ℕ → List ℕ → ℕ → List Demand
listed_pair g counts needs c =
    record { resource = Cells; place = c; need = slice_index counts c; have = g.rows }
    ∷ record { resource = Tracks; place = c; need = slice_index needs c; have = g.tracks }
    ∷ []

-- of all columns and channels
abbrev pub listed_demands : GeometryValue → List ℕ → List ℕ → List Demand
listed_demands g counts needs =
    joined g.columns (listed_pair g counts needs)
    ++ record { resource = Tracks; place = g.columns; need = slice_index needs g.columns; have = g.tracks }
    ∷ []
