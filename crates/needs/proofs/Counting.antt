-- The signals that are live on a channel, counted by those that begin and end.
use Rattle.std.proofs.Common.{◌≡◌, ℕ, ◌+◌, ◌<◌, ◌≤◌, Bool, cond, ◌&&◌, ⊎_elim, List, [], ◌∷◌, length, take, get_or, refl, ap, sym, ◌∙◌, arith, ltb, leb, eqb, count_by, sum_by, ◌++◌, ◌-◌}
use Rattle.std.proofs.lemmas.Bool.{cases_lt}
use Rattle.std.proofs.lemmas.List.{get_or_append_left, get_or_push, length-take-le}
use Rattle.std.proofs.lemmas.Bool.Decides.{nat_tests}
use Rattle.std.proofs.lemmas.List.Sums.{sum_by-cons, count_by-le-length}
use Rattle.route_defs.specs.declared.span.Span.{Span}
use Rattle.route_defs.specs.Spans.{is_live, need}
use Rattle.needs.specs.Counts.{begun, ended}

-- a test as a number
abbrev pub bit : Bool → ℕ
bit b = cond b 1 0

-- begun before channel c, and not ended before the channel before it
abbrev pub is_passed : ℕ → Span → Bool
is_passed c s = ltb s.first c && leb c s.end

-- how many signals come from the channel before c: they began before it, and have not ended before that
abbrev pub passed : List Span → ℕ → ℕ
passed spans c = count_by (is_passed c) spans

-- a signal that is live on no channel has no part
abbrev pub begins_at : ℕ → Span → Bool
begins_at c s = ltb s.first s.end && eqb s.first c

-- live on some channel, the last of which is the one before c
abbrev pub ends_at : ℕ → Span → Bool
ends_at c s = ltb s.first s.end && eqb s.end c

-- begun before channel c, and not ended there
abbrev pub is_going : ℕ → Span → Bool
is_going c s = ltb s.first c && ltb c s.end

-- how many signals are live on the channel before c and on c too
abbrev pub going : List Span → ℕ → ℕ
going spans c = count_by (is_going c) spans

-- a signal that comes from the channel before ends or goes on
passed_one : (f e c : ℕ) → bit (ltb f c && leb c e) ≡ bit (ltb f e && eqb e c) + bit (ltb f c && ltb c e)
passed_one f e c = grind (arith, nat_tests)

-- a signal that is live comes from the channel before or begins
live_one : (f e c : ℕ) → bit (leb f c && ltb c e) ≡ bit (ltb f c && ltb c e) + bit (ltb f e && eqb f c)
live_one f e c = grind (arith, nat_tests)

-- a signal that is live on a channel comes to the next one
next_one : (f e c : ℕ) → bit (ltb f (c + 1) && leb (c + 1) e) ≡ bit (leb f c && ltb c e)
next_one f e c = grind (arith, nat_tests)

-- none comes to channel 0
none_one : (f e : ℕ) → bit (ltb f 0 && leb 0 e) ≡ 0
none_one f e = grind (arith, nat_tests)

-- what is added for each signal is added for all
sums_add : (f g h : Span → ℕ) → ((s : Span) → f s ≡ g s + h s) → (spans : List Span) → sum_by f spans ≡ sum_by g spans + sum_by h spans
sums_add f g h each [] = refl
sums_add f g h each (s ∷ spans) =
    let rest = sums_add f g h each spans in
    omega (arith, sum_by-cons f s spans, sum_by-cons g s spans, sum_by-cons h s spans, rest, each s)

-- so of those that come to a channel some end and some go on
passed_splits : (spans : List Span) (c : ℕ) → passed spans c ≡ ended spans c + going spans c
passed_splits spans c =
    sums_add (λ s. bit (is_passed c s)) (λ s. bit (ends_at c s)) (λ s. bit (is_going c s)) (λ s. passed_one s.first s.end c) spans

-- of those that are live some come and some begin
need_splits : (spans : List Span) (c : ℕ) → need spans c ≡ going spans c + begun spans c
need_splits spans c =
    sums_add (λ s. bit (is_live c s)) (λ s. bit (is_going c s)) (λ s. bit (begins_at c s)) (λ s. live_one s.first s.end c) spans

-- and all of them come to the next channel
pub passed_next : (spans : List Span) (c : ℕ) → passed spans (c + 1) ≡ need spans c
passed_next [] c = refl
passed_next (s ∷ spans) c =
    let rest : passed spans (c + 1) ≡ need spans c = passed_next spans c in
    omega (
      arith,
      sum_by-cons (λ (t : Span). bit (is_passed (c + 1) t)) s spans,
      sum_by-cons (λ (t : Span). bit (is_live c t)) s spans,
      rest,
      next_one s.first s.end c,
    )

-- so no signal comes to channel 0
pub passed_none : (spans : List Span) → passed spans 0 ≡ 0
passed_none [] = refl
passed_none (s ∷ spans) =
    omega (arith, sum_by-cons (λ (t : Span). bit (is_passed 0 t)) s spans, passed_none spans, none_one s.first s.end)

-- no more end than come
pub ended-le : (spans : List Span) (c live e : ℕ) → live ≡ passed spans c → e ≡ ended spans c → e ≤ live
ended-le spans c live e p q = omega (arith, passed_splits spans c, p, q)

-- what is left of them and those that begin are live
pub live_now : (spans : List Span) (c live e b : ℕ) → live ≡ passed spans c → e ≡ ended spans c → b ≡ begun spans c
    → live - e + b ≡ need spans c
live_now spans c live e b p q r = omega (arith, passed_splits spans c, need_splits spans c, p, q, r)

-- no more are live than there are
pub need-le : (spans : List Span) (c : ℕ) → need spans c ≤ length spans
need-le spans c = count_by-le-length (is_live c) spans

-- and no more begin or end than were counted
pub begun-le : (spans : List Span) (i c : ℕ) → i ≤ length spans → begun (take i spans) c ≤ i
begun-le spans i c le = omega (arith, count_by-le-length (begins_at c) (take i spans), length-take-le i spans le)

-- of the first i signals no more than i end
pub ended-count-le : (spans : List Span) (i c : ℕ) → i ≤ length spans → ended (take i spans) c ≤ i
ended-count-le spans i c le = omega (arith, count_by-le-length (ends_at c) (take i spans), length-take-le i spans le)

-- one more need behind those before it
pub needs_pushed : (spans : List Span) (needs : List ℕ) (c n : ℕ) → length needs ≡ c → n ≡ need spans c
    → ((j : ℕ) → j < c → get_or needs j 0 ≡ need spans j)
    → (j : ℕ) → j < c + 1 → get_or (needs ++ n ∷ []) j 0 ≡ need spans j
needs_pushed spans needs c n long e before j lt =
    ⊎_elim
    (λ here. get_or_append_left needs (n ∷ []) 0 j (omega arith) ∙ before j here)
    (λ past. let last : j ≡ c = omega arith in
    get_or_push needs n 0 j (long ∙ sym last) ∙ e ∙ ap (need spans) (sym last))
    (cases_lt j c)
