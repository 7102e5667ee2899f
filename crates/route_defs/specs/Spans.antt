-- Spans of channels, and how many of them have a channel.
use Rattle.std.specs.Prelude.{ℕ, ◌<◌, ◌≤◌, Bool, ◌&&◌, List, slice_index_or, count_by}
use Rattle.std.proofs.Common.{leb, ltb}
use Rattle.route_defs.specs.declared.span.Span.{Span}

-- what stands past the last signal: it is never live
abbrev pub no_span : Span
no_span = record { first = 0; end = 0 }

-- the span of signal n
abbrev pub span_at : List Span → ℕ → Span
span_at spans n = slice_index_or spans n no_span

-- the signal is live on channel c
abbrev pub IsLive : Span → ℕ → Type 0
IsLive span c = (span.first ≤ c) × (c < span.end)

-- the same as a test
abbrev pub is_live : ℕ → Span → Bool
is_live c span = leb span.first c && ltb c span.end

-- how many signals are live on channel c
abbrev pub need : List Span → ℕ → ℕ
need spans c = count_by (is_live c) spans
