-- A track for each signal, so that no two signals that are live on one channel share a track.
use Rattle.std.specs.Prelude.{◌≡◌, ℕ, ◌<◌, ◌≤◌, List, length, slice_index}
use Rattle.route_defs.specs.declared.span.Span.{Span}
use Rattle.route_defs.specs.Spans.{span_at, IsLive}

-- each signal that is live anywhere has one of so many tracks, and those that are live on one channel have
-- different ones
pub record AreTracks (spans : List Span) (have : ℕ) (tracks : List ℕ) : Type 0 where
  pub count : length tracks ≡ length spans
  pub within : (i c : ℕ) → i < length spans → IsLive (span_at spans i) c → slice_index tracks i < have
  pub apart : (i j c : ℕ) → i < length spans → j < length spans → IsLive (span_at spans i) c
      → IsLive (span_at spans j) c → slice_index tracks i ≡ slice_index tracks j → i ≡ j

-- the signals stand in the order of their first channels
abbrev pub BeginInOrder : List Span → Type 0
BeginInOrder spans = (i j : ℕ) → i ≤ j → j < length spans → (span_at spans i).first ≤ (span_at spans j).first
