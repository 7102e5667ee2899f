-- The points of a script with one lane.
use Rattle.std.proofs.Common.{◌≡◌, ℕ, zero, suc, ◌+◌, ◌-◌, ◌<◌, ◌≤◌, Bool, true, false, cond, List, [], ◌∷◌, length, filter, Some, inl, inr, refl, sym, ap, subst, ◌∙◌, arith}
use Rattle.std.specs.Prelude.{nat_le}
use Rattle.std.specs.List.{slice_get}
use Rattle.std.proofs.lemmas.Bool.{cases_lt}
use Rattle.std.proofs.lemmas.Bool.Decides.{nat_tests}
use Rattle.std.proofs.lemmas.Option.{none-some, same_Some, slice_get_within, slice_get_cases}
use Rattle.journal_defs.specs.Journals.{EntryValue}
use Rattle.script_defs.specs.declared.command.Command.{Command}
use Rattle.script_defs.specs.declared.line.EntryKind.{EntryKind}
use Rattle.script_defs.specs.declared.line.EntryKind.TheVariants.{Agreed, Installed, Evicted}
use Rattle.script_defs.specs.declared.line.Line.{Line}
use Rattle.script_defs.specs.Scripts.{ScriptValue}
use Rattle.script_defs.specs.Transcripts.{ReplyValue, TranscriptValue}
use Rattle.session_defs.specs.Files.{Contents}
use Rattle.session_defs.specs.Meant.{at_turn}
use Rattle.session_defs.specs.Points.{before, after, PointsRise}
use Rattle.session_defs.specs.Transcripts.{made, IsReplyAt, ComesFromCommand, IsTranscript}

-- ---- how many pass

-- where just the first n pass, n pass
count-first : {X : Type 0} (p : X → Bool) (xs : List X) (n : ℕ) → n ≤ length xs
    → ((i : ℕ) (x : X) → slice_get xs i ≡ Some x → i < n → p x ≡ true)
    → ((i : ℕ) (x : X) → slice_get xs i ≡ Some x → n ≤ i → p x ≡ false)
    → length (filter p xs) ≡ n
count-first p [] n le passes fails = omega (arith, le)
count-first p (x ∷ xs) zero le passes fails =
    ap (λ b. length (cond b (x ∷ filter p xs) (filter p xs))) (fails 0 x refl (omega arith))
    ∙ count-first p xs zero (omega arith) (λ i y found lt. absurd (omega (arith, lt)))
    (λ i y found ge. fails (suc i) y found (omega arith))
count-first p (x ∷ xs) (suc n) le passes fails =
    ap (λ b. length (cond b (x ∷ filter p xs) (filter p xs))) (passes 0 x refl (omega arith))
    ∙ ap suc
    (count-first p xs n (omega (arith, le)) (λ i y found lt. passes (suc i) y found (omega (arith, lt)))
    (λ i y found ge. fails (suc i) y found (omega (arith, ge))))

-- ---- points rise

-- points never fall from one turn to the next, so not over several turns
later-rises : (entries : ℕ) (rs : List ReplyValue) (t k : ℕ) (r q : ReplyValue) → PointsRise entries rs
    → slice_get rs t ≡ Some r → slice_get rs (t + suc k) ≡ Some q → after r ≤ before q
later-rises entries rs t zero r q rise here there = rise.never_falls t r q here there
later-rises entries rs t (suc k) r q rise here there =
    elim (slice_get_cases rs (t + suc k)).1 [
      | inl f ↦
          let next : t + suc k + 1 ≡ t + suc (suc k) = omega arith in
          let first : after r ≤ before f.0 = later-rises entries rs t k r f.0 rise here f.2 in
          let middle : before f.0 ≤ after f.0 = rise.rises (t + suc k) f.0 f.2 in
          let last : after f.0 ≤ before q =
          rise.never_falls (t + suc k) f.0 q f.2 (subst (λ n. slice_get rs n ≡ Some q) (sym next) there) in
          omega (arith, first, middle, last)
      | inr past ↦ absurd (omega (arith, past.0, slice_get_within rs (t + suc (suc k)) q there))
    ]

-- a reply of a later turn begins where the earlier one ended, or behind
rises-to : (entries : ℕ) (rs : List ReplyValue) (t u : ℕ) (r q : ReplyValue) → PointsRise entries rs
    → slice_get rs t ≡ Some r → slice_get rs u ≡ Some q → t < u → after r ≤ before q
rises-to entries rs t u r q rise here there lt =
    let far : t + suc (u - t - 1) ≡ u = omega (arith, lt) in
    later-rises entries rs t (u - t - 1) r q rise here (subst (λ n. slice_get rs n ≡ Some q) (sym far) there)

-- and doesn't end before it
ends-behind : (entries : ℕ) (rs : List ReplyValue) (u t : ℕ) (q r : ReplyValue) → PointsRise entries rs
    → slice_get rs u ≡ Some q → slice_get rs t ≡ Some r → u ≤ t → after q ≤ after r
ends-behind entries rs u t q r rise there here le =
    elim (cases_lt u t) [
      | inl lt ↦
          let first : after q ≤ before r = rises-to entries rs u t q r rise there here lt in
          let second : before r ≤ after r = rise.rises t r here in
          omega (arith, first, second)
      | inr ge ↦
          let same_turn : u ≡ t = omega (arith, le, ge) in
          let one : q ≡ r = same_Some q r (sym (subst (λ n. slice_get rs n ≡ Some q) same_turn there) ∙ here) in
          let same_point : after q ≡ after r = ap after one in
          omega (arith, same_point)
    ]

-- ---- one lane

-- a reply that tells of an entry stands behind it
after-made : (kind : EntryKind) (number : ℕ) → after (made kind number) ≡ number
after-made Agreed number = refl
after-made Installed number = refl
after-made Evicted number = refl

-- and was decided before it
before-made : (kind : EntryKind) (number : ℕ) → before (made kind number) ≡ number - 1
before-made Agreed number = refl
before-made Installed number = refl
before-made Evicted number = refl

-- where there is one lane, each reply is of it
only-lane : (rs : List (List ReplyValue)) (lane turn : ℕ) (q : ReplyValue) → length rs ≡ 1
    → at_turn rs lane turn ≡ Some q → (r : List ReplyValue) × (slice_get rs 0 ≡ Some r) × (slice_get r turn ≡ Some q)
only-lane [] lane turn q one found = absurd (none-some q found)
only-lane (r ∷ []) zero turn q one found = (r, refl, found)
only-lane (r ∷ []) (suc lane) turn q one found = absurd (none-some q found)
only-lane (r ∷ more ∷ rest) lane turn q one found = absurd (omega (arith, one))

-- the entries up to a reply's point are those of its turn and earlier ones, so counting these gives the point
pub points-count : (s : ScriptValue) (files : List Contents) (t : TranscriptValue) (h : List EntryValue)
    (commands : List Command) (turn : ℕ) (reply : ReplyValue) → s.lanes ≡ commands ∷ [] → IsTranscript s files t h
    → IsReplyAt t 0 turn reply
    → after reply ≡ length (filter (λ (line : Line). nat_le line.turn turn) t.journal)
points-count s files t h commands turn reply single transcript replied =
    let one : length t.lanes ≡ 1 = transcript.answered.lanes ∙ ap length single in
    let here = only-lane t.lanes 0 turn reply one replied in
    let rise : PointsRise (length t.journal) here.0 = transcript.points 0 here.0 here.1 in
    let within : after reply ≤ length t.journal = rise.within turn reply here.2 in
    sym (count-first (λ (line : Line). nat_le line.turn turn) t.journal (after reply) within
    (λ p line found lt. early p line found here.0 here.1 rise here.2 lt)
    (λ p line found ge. late p line found here.0 here.1 rise here.2 ge))
  where
    -- the reply that a line comes from stands in the only lane
    reply-of : (p : ℕ) (line : Line) → slice_get t.journal p ≡ Some line → (r : List ReplyValue)
        → slice_get t.lanes 0 ≡ Some r → slice_get r line.turn ≡ Some (made line.kind (p + 1))
    reply-of p line found r is_lane =
        let from : ComesFromCommand s t (p + 1) line = transcript.accepted.lines p line found in
        let there = only-lane t.lanes line.lane line.turn (made line.kind (p + 1))
        (transcript.answered.lanes ∙ ap length single) from.reply in
        let same_lane : there.0 ≡ r = same_Some there.0 r (sym there.1 ∙ is_lane) in
        subst (λ l. slice_get l line.turn ≡ Some (made line.kind (p + 1))) same_lane there.2

    -- an entry before the point isn't of a later turn
    early : (p : ℕ) (line : Line) → slice_get t.journal p ≡ Some line → (r : List ReplyValue)
        → slice_get t.lanes 0 ≡ Some r → PointsRise (length t.journal) r → slice_get r turn ≡ Some reply
        → p < after reply → nat_le line.turn turn ≡ true
    early p line found r is_lane rise here lt =
        elim (cases_lt turn line.turn) [
          | inl later ↦
              let le : after reply ≤ before (made line.kind (p + 1)) =
              rises-to (length t.journal) r turn line.turn reply (made line.kind (p + 1)) rise here
              (reply-of p line found r is_lane) later in
              absurd (omega (arith, le, lt, before-made line.kind (p + 1)))
          | inr le ↦ grind (arith, nat_tests, le)
        ]

    -- and an entry behind it is of a later turn
    late : (p : ℕ) (line : Line) → slice_get t.journal p ≡ Some line → (r : List ReplyValue)
        → slice_get t.lanes 0 ≡ Some r → PointsRise (length t.journal) r → slice_get r turn ≡ Some reply
        → after reply ≤ p → nat_le line.turn turn ≡ false
    late p line found r is_lane rise here ge =
        elim (cases_lt turn line.turn) [
          | inl later ↦ grind (arith, nat_tests, later)
          | inr earlier ↦
              let le : after (made line.kind (p + 1)) ≤ after reply =
              ends-behind (length t.journal) r line.turn turn (made line.kind (p + 1)) reply rise
              (reply-of p line found r is_lane) here earlier in
              absurd (omega (arith, le, ge, after-made line.kind (p + 1)))
        ]
