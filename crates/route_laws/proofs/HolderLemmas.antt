-- Which seat holds a track, as one seat after another is passed.
use Rattle.std.proofs.Common.{◌≡◌, ℕ, suc, ◌<◌, ◌≤◌, ⊎_elim, false, ◌==◌, ◌&&◌, List, get_or, Some, ap, ◌∙◌, eq-eqb}
use Rattle.std.proofs.lemmas.Bool.{cases_lt, lt-ltb, le-ltb, ne_eqb, cond-true, cond-false}
use Rattle.route_defs.specs.declared.span.Span.{Span}
use Rattle.route_defs.specs.Spans.{span_at}
use Rattle.route_laws.specs.Listing.{takes_track, holder}

-- a seat whose signal is live somewhere takes its own track
takes_track-live : (spans : List Span) (chosen : List ℕ) (seat t : ℕ) → (span_at spans seat).first < (span_at spans seat).end
    → takes_track spans chosen seat t ≡ (get_or chosen seat 0 == t)
takes_track-live spans chosen seat t lt =
    ap (λ b. b && (get_or chosen seat 0 == t)) (lt-ltb (span_at spans seat).first (span_at spans seat).end lt)

-- one whose signal is live nowhere takes none
takes_track-never : (spans : List Span) (chosen : List ℕ) (seat t : ℕ) → (span_at spans seat).end ≤ (span_at spans seat).first
    → takes_track spans chosen seat t ≡ false
takes_track-never spans chosen seat t le =
    ap (λ b. b && (get_or chosen seat 0 == t)) (le-ltb (span_at spans seat).first (span_at spans seat).end le)

-- the seat holds the track that its signal takes
pub holder-taken : (spans : List Span) (chosen : List ℕ) (seat t : ℕ) → (span_at spans seat).first < (span_at spans seat).end
    → get_or chosen seat 0 ≡ t → holder spans chosen (suc seat) t ≡ Some seat
holder-taken spans chosen seat t live e =
    cond-true (takes_track spans chosen seat t) (Some seat) (holder spans chosen seat t)
    (takes_track-live spans chosen seat t live ∙ eq-eqb (get_or chosen seat 0) t e)

-- a signal that is live nowhere changes no holder
pub holder-unlive : (spans : List Span) (chosen : List ℕ) (seat t : ℕ) → (span_at spans seat).end ≤ (span_at spans seat).first
    → holder spans chosen (suc seat) t ≡ holder spans chosen seat t
holder-unlive spans chosen seat t le =
    cond-false (takes_track spans chosen seat t) (Some seat) (holder spans chosen seat t) (takes_track-never spans chosen seat t le)

-- and none changes those of other tracks
pub holder-other : (spans : List Span) (chosen : List ℕ) (seat t : ℕ) → (get_or chosen seat 0 ≡ t → ⊥)
    → holder spans chosen (suc seat) t ≡ holder spans chosen seat t
holder-other spans chosen seat t ne =
    ⊎_elim
    (λ live. cond-false (takes_track spans chosen seat t) (Some seat) (holder spans chosen seat t)
    (takes_track-live spans chosen seat t live ∙ ne_eqb (get_or chosen seat 0) t ne))
    (λ past. holder-unlive spans chosen seat t past)
    (cases_lt (span_at spans seat).first (span_at spans seat).end)
