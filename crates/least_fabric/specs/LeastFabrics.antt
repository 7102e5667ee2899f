-- The least fabric of which the reference mapping of a network needs no more than is there, as far as the limits of
-- fabrics allow.
use Rattle.std.specs.Prelude.{◌≡◌, ℕ, ◌+◌, max, min, List, [], ◌∷◌, length}
use Rattle.net_defs.specs.Networks.{Network}
use Rattle.fabric_defs.specs.Numbered.{list_of}
use Rattle.fabric_defs.specs.declared.kind.CellKind.TheVariants.{FourInputs}
use Rattle.fabric_defs.specs.declared.limits.TheConstants.{MAX_SIDE, MAX_TRACKS}
use Rattle.fabric_defs.specs.Geometries.{GeometryValue}
use Rattle.map_defs.specs.Mapped.{MappedValue}
use Rattle.map_defs.specs.Columns.{AreColumns}
use Rattle.map_defs.specs.Reference.{RefMap}
use Rattle.route_defs.specs.declared.span.Span.{Span}
use Rattle.route_defs.specs.Demands.{columns_used, cells_in}
use Rattle.route_defs.specs.Signals.{AreSpans}
use Rattle.route_defs.specs.Spans.{need}

-- the greatest of the numbers, or 0 where there is none
abbrev pub greatest : List ℕ → ℕ
greatest [] = 0
greatest (n ∷ ns) = max n (greatest ns)

-- the number, but 1 where it is 0, and the limit where it is greater
abbrev pub within : ℕ → ℕ → ℕ
within limit n = min (max n 1) limit

-- cells of four inputs in so many columns and rows, with so many tracks and pads, each within its limits
abbrev pub limited_fabric : (columns rows tracks input_pads output_pads : ℕ) → GeometryValue
limited_fabric columns rows tracks input_pads output_pads = record {
  kind = FourInputs;
  columns = within MAX_SIDE columns;
  rows = within MAX_SIDE rows;
  tracks = within MAX_TRACKS tracks;
  input_pads = within MAX_SIDE input_pads;
  output_pads = within MAX_SIDE output_pads;
}

-- how many columns cells with these columns take; one where there is no cell
abbrev pub column_count : List ℕ → ℕ
column_count columns = max (columns_used columns) 1

-- how many cells the fullest column has
abbrev pub most_cells : List ℕ → ℕ
most_cells columns = greatest (list_of (column_count columns) (cells_in columns))

-- how many signals with these spans are live on the fullest channel
abbrev pub most_live : List ℕ → List Span → ℕ
most_live columns spans = greatest (list_of (column_count columns + 1) (need spans))

-- the fabric has as many columns, rows, tracks and pads as the reference mapping of the network needs, at least one of
-- each and no more than the limits
pub record IsLeastFabric (net : Network) (g : GeometryValue) : Type 0 where
  pub mapped : MappedValue
  pub reference : RefMap net mapped
  pub columns : List ℕ
  pub are_columns : AreColumns mapped columns
  pub spans : List Span
  pub are_spans : AreSpans mapped columns (column_count columns) spans
  pub least : g ≡ limited_fabric (columns_used columns) (most_cells columns) (most_live columns spans) mapped.inputs
      (length mapped.outputs)
