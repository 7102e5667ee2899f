-- The signals that begin at a channel, and those that end before it.
use Rattle.std.specs.Prelude.{ℕ, ◌<◌, ◌≤◌, ◌&&◌, List, length, count_by}
use Rattle.std.proofs.Common.{eqb, ltb}
use Rattle.route_defs.specs.declared.span.Span.{Span}
use Rattle.route_defs.specs.Spans.{span_at}

-- how many signals that are live somewhere begin at channel c
abbrev pub begun : List Span → ℕ → ℕ
begun spans c = count_by (λ (s : Span). ltb s.first s.end && eqb s.first c) spans

-- how many of them end before channel c
abbrev pub ended : List Span → ℕ → ℕ
ended spans c = count_by (λ (s : Span). ltb s.first s.end && eqb s.end c) spans

-- all signals end before there are no more channels
abbrev pub EndWithin : List Span → ℕ → Type 0
EndWithin spans channels = (i : ℕ) → i < length spans → (span_at spans i).end ≤ channels
