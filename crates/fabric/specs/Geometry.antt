-- A geometry by its kind and its numbers.
use Rattle.std.specs.Prelude.{ℕ}
use Rattle.fabric_defs.specs.Geometries.{GeometryValue}
use Rattle.fabric_defs.specs.declared.kind.CellKind.{CellKind}

-- cells of this kind, c columns of r rows, t tracks in each channel, i input pads and o output pads
abbrev pub geometry_of : CellKind → ℕ → ℕ → ℕ → ℕ → ℕ → GeometryValue
geometry_of kind c r t i o =
    record { kind = kind; columns = c; rows = r; tracks = t; input_pads = i; output_pads = o }

-- the same numbers with cells of another kind
abbrev pub of_kind : CellKind → GeometryValue → GeometryValue
of_kind kind g = geometry_of kind g.columns g.rows g.tracks g.input_pads g.output_pads
