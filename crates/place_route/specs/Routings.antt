-- What is known of signals that have seats and tracks, where the words of a configuration are written.
use Rattle.std.specs.Prelude.{◌≡◌, ℕ, ◌+◌, ◌<◌, ◌≤◌, List, length, slice_index, slice_index_or, Option, Some, None, All}
use Rattle.fabric_defs.specs.declared.limits.TheConstants.{MAX_SIDE, MAX_TRACKS}
use Rattle.fabric_defs.specs.Geometries.{GeometryValue}
use Rattle.map_defs.specs.Mapped.{MappedValue, mapped_cell}
use Rattle.route_defs.specs.declared.span.Span.{Span}
use Rattle.route_defs.specs.Spans.{span_at}
use Rattle.route_defs.specs.Placed.{IsPlaced}
use Rattle.route_laws.specs.Seats.{seat_count}
use Rattle.route_laws.specs.Listing.{IsTapped}

-- Each seat has its span, its track where it is live, and the number of its signal; each pin and each
-- output listens to a signal with a track.
pub record IsRouting (l : MappedValue) (g : GeometryValue) (spans : List Span) (signals : List (Option ℕ)) (chosen tracks : List ℕ) : Type 0 where
  pub few : l.inputs ≤ MAX_SIDE
  pub spans_count : length spans ≡ seat_count l.inputs g
  pub signals_count : length signals ≡ seat_count l.inputs g
  pub chosen_count : length chosen ≡ length spans
  pub chosen_within : (seat : ℕ) → seat < length spans
      → (span_at spans seat).first < (span_at spans seat).end → slice_index chosen seat < g.tracks
  pub cells : (seat n : ℕ) → l.inputs ≤ seat → slice_index_or signals seat None ≡ Some n
      → (l.inputs ≤ n) × (n < l.inputs + length l.cells)
  pub pins : (k : ℕ) → k < length l.cells
      → All (IsTapped l.inputs MAX_TRACKS tracks) (mapped_cell l k).pins
  pub outputs : All (IsTapped l.inputs MAX_TRACKS tracks) l.outputs

-- these words place the cells, with some choice of tracks
abbrev pub PlaceCells : MappedValue → GeometryValue → List ℕ → List Span → List ℕ → Type 0
PlaceCells l g columns spans words =
    (tracks : List ℕ) × IsPlaced l columns spans tracks (record { geometry = g; words = words })
