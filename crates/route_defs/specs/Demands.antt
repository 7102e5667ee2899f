-- What mapped cells need of each resource of a fabric, in the order in which a refusal names it.
use Rattle.std.specs.Prelude.{◌≡◌, ℕ, ◌+◌, ◌==◌, max, if◌then◌else◌, List, [], ◌∷◌, ◌++◌, length, count_by, Option, Some, None}
use Rattle.std.proofs.Common.{ltb}
use Rattle.fabric_defs.specs.Numbered.{joined}
use Rattle.fabric_defs.specs.Geometries.{GeometryValue}
use Rattle.map_defs.specs.Mapped.{MappedValue}
use Rattle.map_defs.specs.Columns.{AreColumns}
use Rattle.route_defs.specs.declared.span.Span.{Span}
use Rattle.route_defs.specs.declared.demand.Demand.{Demand}
use Rattle.route_defs.specs.declared.demand.Resource.TheVariants.{InputPads, OutputPads, Columns, Cells, Tracks}
use Rattle.route_defs.specs.Spans.{need}
use Rattle.route_defs.specs.Signals.{AreSpans}

-- one more than the greatest of these columns, or 0 where there is none
abbrev pub columns_used : List ℕ → ℕ
columns_used [] = 0
columns_used (column ∷ rest) = max (column + 1) (columns_used rest)

-- how many cells have this column
abbrev pub cells_in : List ℕ → ℕ → ℕ
cells_in columns c = count_by (λ column. column == c) columns

-- what is needed of a column, and of the channel before it
abbrev pub column_demands : GeometryValue → List ℕ → List Span → ℕ → List Demand
column_demands g columns spans c =
    record { resource = Cells; place = c; need = cells_in columns c; have = g.rows }
    ∷ record { resource = Tracks; place = c; need = need spans c; have = g.tracks }
    ∷ []

-- all that is needed: of the pads, of the columns together, of each column, of the last channel
abbrev pub demands : MappedValue → GeometryValue → List ℕ → List Span → List Demand
demands l g columns spans =
    record { resource = InputPads; place = 0; need = l.inputs; have = g.input_pads }
    ∷ record { resource = OutputPads; place = 0; need = length l.outputs; have = g.output_pads }
    ∷ record { resource = Columns; place = 0; need = columns_used columns; have = g.columns }
    ∷ joined g.columns (column_demands g columns spans)
    ++ record { resource = Tracks; place = g.columns; need = need spans g.columns; have = g.tracks }
    ∷ []

-- the first of which more is needed than is there; none where there is enough of all
abbrev pub first_over : List Demand → Option Demand
first_over [] = None
first_over (d ∷ ds) = if ltb d.have d.need then Some d else first_over ds

-- the first resource of the fabric of which the mapped cells need more than is there, if any
abbrev pub FirstOverOf : MappedValue → GeometryValue → Option Demand → Type 0
FirstOverOf l g over =
    (columns : List ℕ) × (spans : List Span) × AreColumns l columns × AreSpans l columns g.columns spans
    × (over ≡ first_over (demands l g columns spans))
