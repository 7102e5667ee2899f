-- Signals that have seats, and seats that have tracks, before any word is written.
use Rattle.std.specs.Prelude.{◌≡◌, ℕ, ◌+◌, ◌<◌, List, length, slice_index, Option}
use Rattle.fabric_defs.specs.Numbered.{list_of}
use Rattle.fabric_defs.specs.Geometries.{GeometryValue, IsGeometry}
use Rattle.fabric_defs.specs.Configurations.{ConfigValue}
use Rattle.map_defs.specs.Mapped.{MappedValue}
use Rattle.route_defs.specs.declared.span.Span.{Span}
use Rattle.route_defs.specs.Signals.{AreSpans}
use Rattle.route_defs.specs.Tracks.{AreTracks}
use Rattle.route_defs.specs.Placed.{HaveRoom}
use Rattle.route_laws.specs.Seats.{AreRows, seat_of, HaveSeats}
use Rattle.route_laws.specs.Listing.{listed_words}

-- the seats of all signals, where there is room for the cells
pub record AreSeats (l : MappedValue) (g : GeometryValue) (columns rows seats : List ℕ) : Type 0 where
  pub columns_count : length columns ≡ length l.cells
  pub are_rows : AreRows columns rows
  pub room : HaveRoom l g columns
  pub some_rows : 0 < g.rows
  pub seats_are : seats ≡ list_of (l.inputs + length l.cells) (seat_of l.inputs g columns rows)

-- The signals have seats, and the seats have tracks. The tracks of the signals are those of their seats.
pub record HaveTracks (l : MappedValue) (g : GeometryValue) (columns rows : List ℕ) (spans : List Span) (seats : List ℕ) (seated : List Span) (signals : List (Option ℕ)) (chosen tracks : List ℕ) : Type 0 where
  pub geometry : IsGeometry g
  pub are_seats : AreSeats l g columns rows seats
  pub are : AreSpans l columns g.columns spans
  pub have : HaveSeats l.inputs g spans seats (length spans) seated signals
  pub choice : AreTracks seated g.tracks chosen
  pub tracks_are : tracks
      ≡ list_of (l.inputs + length l.cells) (λ n. slice_index chosen (slice_index seats n))

-- the configuration of the listed words
abbrev pub listed_config : MappedValue → GeometryValue → List Span → List ℕ → List ℕ → List (Option ℕ) → ConfigValue
listed_config l g seated chosen tracks signals =
    record { geometry = g; words = listed_words l g seated chosen tracks signals }
