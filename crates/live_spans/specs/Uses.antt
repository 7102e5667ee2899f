-- Spans that become longer where something listens to their signals.
use Rattle.std.specs.Prelude.{◌≡◌, ℕ, ◌+◌, ◌<◌, ◌≤◌, ◌⊎◌, ◌↔◌, List, length, take, slice_index}
use Rattle.clause_defs.specs.Clauses.{Has}
use Rattle.cell_defs.specs.declared.source.Source.{Source}
use Rattle.map_defs.specs.Mapped.{MappedValue, mapped_cell}
use Rattle.route_defs.specs.declared.span.Span.{Span}
use Rattle.route_defs.specs.Spans.{span_at}
use Rattle.route_defs.specs.Signals.{IsSignal, first_channel, span_of}

-- the span of a cell with this column, to which nothing listens
abbrev pub entering : ℕ → Span
entering column = record { first = column + 1; end = 0 }

-- signal n has become live on the channels before `end`, and all else is the same
pub record IsExtended (old new : List Span) (n end : ℕ) : Type 0 where
  pub count : length new ≡ length old
  pub firsts : (m : ℕ) → (span_at new m).first ≡ (span_at old m).first
  pub ends : (m c : ℕ) → (c < (span_at new m).end) ↔ ((c < (span_at old m).end) ⊎ ((m ≡ n) × (c < end)))

-- the signals among these sources have
pub record AreExtended (l : MappedValue) (old new : List Span) (sources : List Source) (end : ℕ) : Type 0 where
  pub count : length new ≡ length old
  pub firsts : (m : ℕ) → (span_at new m).first ≡ (span_at old m).first
  pub ends : (s : Source) (c : ℕ) → IsSignal l s
      → (c < (span_of l new s).end) ↔ ((c < (span_of l old s).end) ⊎ (Has sources s × (c < end)))

-- one of the first k cells has a pin that listens to the signal at channel c or at a later one
abbrev pub IsUsedByFirst : MappedValue → List ℕ → ℕ → Source → ℕ → Type 0
IsUsedByFirst l columns k s c =
    (j : ℕ) × (j < k) × Has (mapped_cell l j).pins s × (c ≤ slice_index columns j)

-- the spans are right, as far as the first k cells and the first o outputs are concerned
pub record AreSpansSoFar (l : MappedValue) (columns : List ℕ) (last k o : ℕ) (spans : List Span) : Type 0 where
  pub count : length spans ≡ l.inputs + length l.cells
  pub firsts : (s : Source) → IsSignal l s → (span_of l spans s).first ≡ first_channel columns s
  pub ends : (s : Source) (c : ℕ) → IsSignal l s
      → (c < (span_of l spans s).end)
      ↔ (IsUsedByFirst l columns k s c ⊎ (Has (take o l.outputs) s × (c ≤ last)))
