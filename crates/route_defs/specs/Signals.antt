-- The signals of mapped cells, and the channels on which each of them is live. A signal is an input or a
-- cell, and is told by the source that listens to it.
use Rattle.std.specs.Prelude.{◌≡◌, ℕ, ◌+◌, ◌<◌, ◌≤◌, ◌⊎◌, ◌↔◌, List, length, slice_index}
use Rattle.clause_defs.specs.Clauses.{Has}
use Rattle.cell_defs.specs.declared.source.Source.{Source}
use Rattle.cell_defs.specs.declared.source.Source.TheVariants.{Zero, Pad, Cell}
use Rattle.map_defs.specs.Mapped.{MappedValue, mapped_cell}
use Rattle.route_defs.specs.declared.span.Span.{Span}
use Rattle.route_defs.specs.Spans.{span_at}

-- an input or a cell of these
abbrev pub IsSignal : MappedValue → Source → Type 0
IsSignal l Zero = ⊥
IsSignal l (Pad i) = i < l.inputs
IsSignal l (Cell k) = k < length l.cells

-- signals are numbered: the inputs, and then the cells
abbrev pub signal_number : MappedValue → Source → ℕ
signal_number l Zero = 0
signal_number l (Pad i) = i
signal_number l (Cell k) = l.inputs + k

-- the first channel on which a signal may be live: the one before all columns for an input, the one after
-- its column for a cell
abbrev pub first_channel : List ℕ → Source → ℕ
first_channel columns Zero = 0
first_channel columns (Pad i) = 0
first_channel columns (Cell k) = slice_index columns k + 1

-- something listens to the signal at channel c or at a later one: a pin of a cell, at the channel before
-- the cell's column, or an output, at the channel after the last column
abbrev pub IsUsedFrom : MappedValue → List ℕ → ℕ → Source → ℕ → Type 0
IsUsedFrom l columns last s c =
    ((k : ℕ) × (k < length l.cells) × Has (mapped_cell l k).pins s × (c ≤ slice_index columns k))
    ⊎ (Has l.outputs s × (c ≤ last))

-- the span of a signal
abbrev pub span_of : MappedValue → List Span → Source → Span
span_of l spans s = span_at spans (signal_number l s)

-- The signals have these spans, where the cells have these columns and so many columns stand before the
-- last channel. A signal is live from its first channel to the last one at which something listens to it.
pub record AreSpans (l : MappedValue) (columns : List ℕ) (last : ℕ) (spans : List Span) : Type 0 where
  pub count : length spans ≡ l.inputs + length l.cells
  pub firsts : (s : Source) → IsSignal l s → (span_of l spans s).first ≡ first_channel columns s
  pub ends : (s : Source) (c : ℕ) → IsSignal l s
      → (c < (span_of l spans s).end) ↔ IsUsedFrom l columns last s c
