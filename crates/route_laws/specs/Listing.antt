-- The words of a configuration that places mapped cells as one list, for those who write them one after
-- another. `spans` and `chosen` are here the spans and the tracks of seats, `tracks` the tracks of signals.
use Rattle.std.specs.Prelude.{◌≡◌, ℕ, zero, suc, ◌+◌, ◌-◌, Bool, ◌==◌, ◌&&◌, if◌then◌else◌, List, ◌++◌, length, ◌<◌, ⊤, slice_index, slice_index_or, Option, Some, None}
use Rattle.std.proofs.Common.{eqb, ltb}
use Rattle.fabric_defs.specs.Numbered.{list_of, joined}
use Rattle.fabric_defs.specs.Geometries.{GeometryValue, pin_count, cell_number}
use Rattle.fabric_defs.specs.Layout.{table_words, cell_words}
use Rattle.fabric_laws.specs.TableWords.{words_of}
use Rattle.cell_defs.specs.declared.source.Source.{Source}
use Rattle.cell_defs.specs.declared.source.Source.TheVariants.{Zero, Pad, Cell}
use Rattle.cell_defs.specs.Cells.{CellValue}
use Rattle.map_defs.specs.Mapped.{MappedValue, mapped_cell}
use Rattle.route_defs.specs.declared.span.Span.{Span}
use Rattle.route_defs.specs.Spans.{span_at, is_live}
use Rattle.route_defs.specs.Placed.{pin_of, output_of}
use Rattle.route_laws.specs.Seats.{seats_until, entry_of}

-- the signal of this seat is live somewhere, and on track t
abbrev pub takes_track : List Span → List ℕ → ℕ → ℕ → Bool
takes_track spans chosen seat t =
    ltb (span_at spans seat).first (span_at spans seat).end && slice_index chosen seat == t

-- the last of the first seats whose signal takes track t
abbrev pub holder : List Span → List ℕ → ℕ → ℕ → Option ℕ
holder spans chosen zero t = None
holder spans chosen (suc seat) t =
    if takes_track spans chosen seat t then Some seat else holder spans chosen seat t

-- these are the holders of all tracks
abbrev pub AreHolders : List Span → List ℕ → ℕ → List (Option ℕ) → Type 0
AreHolders spans chosen count holders =
    (t : ℕ) → t < length holders → slice_index_or holders t None ≡ holder spans chosen count t

-- the word of a track at channel c, where this seat holds it: the signal enters there, or is kept; where it
-- isn't live, or no seat holds the track, it is off
abbrev pub carried_word : ℕ → GeometryValue → List Span → ℕ → Option ℕ → ℕ
carried_word inputs g spans c None = 0
carried_word inputs g spans c (Some seat) =
    if is_live c (span_at spans seat)
    then (if eqb (span_at spans seat).first c then entry_of inputs g seat else 1)
    else 0

-- the word of track t of channel c
abbrev pub listed_track : ℕ → GeometryValue → List Span → List ℕ → ℕ → ℕ → ℕ
listed_track inputs g spans chosen c t =
    carried_word inputs g spans c (holder spans chosen (seats_until inputs g c) t)

-- the words of channel c
abbrev pub listed_channel : ℕ → GeometryValue → List Span → List ℕ → ℕ → List ℕ
listed_channel inputs g spans chosen c = list_of g.tracks (listed_track inputs g spans chosen c)

-- the word of a pin or an output pad that listens to this source
abbrev pub tapped_word : ℕ → List ℕ → Source → ℕ
tapped_word inputs tracks Zero = 0
tapped_word inputs tracks (Pad i) = suc (slice_index tracks i)
tapped_word inputs tracks (Cell k) = suc (slice_index tracks (inputs + k))

-- the signal of this source has a track below the limit, if there is one
abbrev pub IsTapped : ℕ → ℕ → List ℕ → Source → Type 0
IsTapped inputs limit tracks Zero = ⊤
IsTapped inputs limit tracks (Pad i) = (i < length tracks) × (slice_index tracks i < limit)
IsTapped inputs limit tracks (Cell k) =
    (inputs + k < length tracks) × (slice_index tracks (inputs + k) < limit)

-- the words of a cell: its pins, and its table
abbrev pub listed_cell : ℕ → GeometryValue → List ℕ → CellValue → List ℕ
listed_cell inputs g tracks cell =
    list_of (pin_count g) (λ pin. tapped_word inputs tracks (pin_of cell pin))
    ++ words_of (table_words g) cell.table

-- the words of the cell that has a seat, told by the signal's number; all are off where the seat is empty
abbrev pub listed_seat : MappedValue → GeometryValue → List ℕ → Option ℕ → List ℕ
listed_seat l g tracks None = list_of (cell_words g) (λ i. 0)
listed_seat l g tracks (Some n) = listed_cell l.inputs g tracks (mapped_cell l (n - l.inputs))

-- the words of the cell at a column and a row
abbrev pub listed_row : MappedValue → GeometryValue → List ℕ → List (Option ℕ) → ℕ → ℕ → List ℕ
listed_row l g tracks signals column row =
    listed_seat l g tracks (slice_index_or signals (l.inputs + cell_number g column row) None)

-- the words of a column, and of the channel after it
abbrev pub listed_column : MappedValue → GeometryValue → List Span → List ℕ → List ℕ → List (Option ℕ) → ℕ → List ℕ
listed_column l g spans chosen tracks signals column =
    joined g.rows (listed_row l g tracks signals column)
    ++ listed_channel l.inputs g spans chosen (column + 1)

-- all words
abbrev pub listed_words : MappedValue → GeometryValue → List Span → List ℕ → List ℕ → List (Option ℕ) → List ℕ
listed_words l g spans chosen tracks signals =
    listed_channel l.inputs g spans chosen 0
    ++ joined g.columns (listed_column l g spans chosen tracks signals)
    ++ list_of g.output_pads (λ o. tapped_word l.inputs tracks (output_of l o))
