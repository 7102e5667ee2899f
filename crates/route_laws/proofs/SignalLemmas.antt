-- The numbers of signals, and the channels on which signals are live.
use Rattle.std.proofs.Common.{◌≡◌, ℕ, ◌+◌, ◌<◌, ◌≤◌, ⊎_elim, List, length, get_or, refl, ap, subst, ◌-◌, arith}
use Rattle.std.proofs.lemmas.Bool.{cases_lt}
use Rattle.cell_defs.specs.declared.source.Source.{Source}
use Rattle.cell_defs.specs.declared.source.Source.TheVariants.{Zero, Pad, Cell}
use Rattle.map_defs.specs.Mapped.{MappedValue}
use Rattle.route_defs.specs.declared.span.Span.{Span}
use Rattle.route_defs.specs.Spans.{span_at}
use Rattle.route_defs.specs.Signals.{IsSignal, signal_number, span_of, AreSpans}

-- signals with one number are one
pub signal_number-apart : (l : MappedValue) (s t : Source) → IsSignal l s → IsSignal l t → signal_number l s ≡ signal_number l t → s ≡ t
signal_number-apart l Zero t p q e = absurd p
signal_number-apart l (Pad i) Zero p q e = absurd q
signal_number-apart l (Pad i) (Pad j) p q e = ap Pad e
signal_number-apart l (Pad i) (Cell k) p q e = absurd (omega arith)
signal_number-apart l (Cell k) Zero p q e = absurd q
signal_number-apart l (Cell k) (Pad i) p q e = absurd (omega arith)
signal_number-apart l (Cell k) (Cell j) p q e = ap Cell (let same : k ≡ j = omega arith in same)

-- the number of a signal is below their count
pub signal_number-lt : (l : MappedValue) (s : Source) → IsSignal l s → signal_number l s < l.inputs + length l.cells
signal_number-lt l Zero p = absurd p
signal_number-lt l (Pad i) p = omega arith
signal_number-lt l (Cell k) p = omega arith

-- each number below that is the number of a signal
pub signal_at : (l : MappedValue) (n : ℕ) → n < l.inputs + length l.cells → (s : Source) × IsSignal l s × (signal_number l s ≡ n)
signal_at l n lt =
    ⊎_elim
    (λ here. (Pad n, here, refl))
    (λ past. (Cell (n - l.inputs), omega arith, omega arith))
    (cases_lt n l.inputs)

-- no signal is live past the last channel
pub ends-le : (l : MappedValue) (columns : List ℕ) (last : ℕ) (spans : List Span) → AreSpans l columns last spans
    → ((k : ℕ) → k < length l.cells → get_or columns k 0 < last) → (n : ℕ) → n < length spans → (span_at spans n).end ≤ last + 1
ends-le l columns last spans are room n lt =
    let at = signal_at l n (omega (arith, are.count)) in
    let P : ℕ → Type 0 = λ m. (span_at spans m).end ≤ last + 1 in
    subst P at.2
    (⊎_elim
    (λ past. let used = (are.ends at.0 (last + 1) at.1).0 past in
    absurd (⊎_elim (λ k. let below = room k.0 k.1 in omega (arith, k.3)) (λ out. omega (arith, out.1)) used))
    (λ le. le)
    (cases_lt (last + 1) (span_of l spans at.0).end))
