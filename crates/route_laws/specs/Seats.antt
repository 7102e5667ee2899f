-- Seats for signals, in the order of their first channels: an input has the seat of its number, and behind
-- all inputs a cell has the seat of its column and row. A seat may be empty.
use Rattle.std.specs.Prelude.{◌≡◌, ℕ, ◌+◌, ◌-◌, ◌*◌, ◌/◌, ◌%◌, ◌<◌, if◌then◌else◌, List, length, take, slice_index, slice_index_or, Option, Some, None}
use Rattle.std.proofs.Common.{ltb}
use Rattle.fabric_defs.specs.Geometries.{GeometryValue, cell_count, cell_number}
use Rattle.route_defs.specs.declared.span.Span.{Span}
use Rattle.route_defs.specs.Spans.{span_at, need}
use Rattle.route_defs.specs.Placed.{row_of}

-- the rows of cells with these columns
pub record AreRows (columns rows : List ℕ) : Type 0 where
  pub count : length rows ≡ length columns
  pub each : (k : ℕ) → k < length columns → slice_index rows k ≡ row_of columns k

-- the seat of signal n, where the cells have these columns and rows
abbrev pub seat_of : ℕ → GeometryValue → List ℕ → List ℕ → ℕ → ℕ
seat_of inputs g columns rows n =
    if ltb n inputs
    then n
    else inputs + cell_number g (slice_index columns (n - inputs)) (slice_index rows (n - inputs))

-- all seats
abbrev pub seat_count : ℕ → GeometryValue → ℕ
seat_count inputs g = inputs + cell_count g

-- the seats of the signals whose first channel is c or one before it
abbrev pub seats_until : ℕ → GeometryValue → ℕ → ℕ
seats_until inputs g c = inputs + c * g.rows

-- the first channel of the signal that has this seat
abbrev pub first_of : ℕ → GeometryValue → ℕ → ℕ
first_of inputs g seat = if ltb seat inputs then 0 else (seat - inputs) / g.rows + 1

-- the word of a track that takes the signal of this seat
abbrev pub entry_of : ℕ → GeometryValue → ℕ → ℕ
entry_of inputs g seat = if ltb seat inputs then seat + 1 else (seat - inputs) % g.rows + 2

-- the span of an empty seat: it is live nowhere
abbrev pub empty_span : ℕ → GeometryValue → ℕ → Span
empty_span inputs g seat = record { first = first_of inputs g seat; end = 0 }

-- The first `count` of the signals with these spans have taken these seats: each seat has its signal's
-- number and span, an empty one has none. No channel has more or fewer live signals for it.
pub record HaveSeats (inputs : ℕ) (g : GeometryValue) (spans : List Span) (seats : List ℕ) (count : ℕ) (seated : List Span) (signals : List (Option ℕ)) : Type 0 where
  pub spans_count : length seated ≡ seat_count inputs g
  pub signals_count : length signals ≡ seat_count inputs g
  pub taken : (n : ℕ) → n < count → slice_index_or signals (slice_index seats n) None ≡ Some n
  pub named : (seat n : ℕ) → slice_index_or signals seat None ≡ Some n
      → (n < count) × (slice_index seats n ≡ seat) × (span_at seated seat ≡ span_at spans n)
  pub empty : (seat : ℕ) → seat < seat_count inputs g → slice_index_or signals seat None ≡ None
      → span_at seated seat ≡ empty_span inputs g seat
  pub needs : (c : ℕ) → need seated c ≡ need (take count spans) c
