-- Tracks that signals take one after another: a track is never wanting where no channel has more live signals
-- than tracks.
use Rattle.std.proofs.Common.{◌≡◌, ℕ, zero, suc, ◌+◌, ◌<◌, ◌≤◌, Bool, false, cond, ◌&&◌, ⊎_elim, List, [], ◌∷◌, ◌++◌, length, take, get_or, set, replicate, refl, ap, subst, sym, ◌∙◌, arith, ltb}
use Rattle.std.proofs.lemmas.Bool.{cases_lt, cases_eq, lt-ltb, le-ltb, le-leb, lt-leb}
use Rattle.std.proofs.lemmas.List.{get_or-set_same, get_or-set_other, length-set, length_push, get_or_push, get_or_append_left}
use Rattle.std.proofs.lemmas.List.Sums.{sum_by-cons, sum_by_more, sum_by-set, sum_by-take-le}
use Rattle.route_defs.specs.declared.span.Span.{Span}
use Rattle.route_defs.specs.Spans.{span_at, no_span, IsLive, is_live, need}
use Rattle.route_defs.specs.Tracks.{AreTracks, BeginInOrder}
use Rattle.tracks.specs.Ends.{taken, AreTaken}

-- a test as a number
abbrev bit : Bool → ℕ
bit b = cond b 1 0

-- where all tracks are taken there are as many as tracks
pub all_taken : (ends : List ℕ) (c : ℕ) → ((j : ℕ) → j < length ends → c < get_or ends j 0) → taken ends c ≡ length ends
all_taken [] c h = refl
all_taken (e ∷ ends) c h =
    let first : bit (ltb c e) ≡ 1 = ap {B = ℕ} bit (lt-ltb c e (h 0 (omega arith))) in
    let rest : taken ends c ≡ length ends = all_taken ends c (λ j lt. h (suc j) (omega arith)) in
    let step : taken (e ∷ ends) c ≡ bit (ltb c e) + taken ends c = sum_by-cons (λ x. bit (ltb c x)) e ends in
    omega arith

-- one more signal on a track that was free
pub taken-set : (ends : List ℕ) (t end c : ℕ) → t < length ends → get_or ends t 0 ≤ c
    → taken (set ends t end) c ≡ taken ends c + bit (ltb c end)
taken-set ends t end c lt free =
    let none : bit (ltb c (get_or ends t 0)) ≡ 0 = ap {B = ℕ} bit (le-ltb c (get_or ends t 0) free) in
    let step : taken (set ends t end) c + bit (ltb c (get_or ends t 0)) ≡ taken ends c + bit (ltb c end) =
    sum_by-set (λ x. bit (ltb c x)) ends t end 0 lt in
    omega arith

-- one more signal among those that are counted
pub need_more : (spans : List Span) (i c : ℕ) → i < length spans
    → need (take (i + 1) spans) c ≡ need (take i spans) c + bit (is_live c (span_at spans i))
need_more spans i c lt = sum_by_more (λ s. bit (is_live c s)) spans i no_span lt

-- from its first channel on, a signal is live until its end
live_from : (s : Span) (c : ℕ) → s.first ≤ c → is_live c s ≡ ltb c s.end
live_from s c le = ap (λ b. b && ltb c s.end) (le-leb s.first c le)

-- a signal that ends where it begins is live nowhere
live_never : (s : Span) (c : ℕ) → s.end ≤ s.first → is_live c s ≡ false
live_never s c le =
    ⊎_elim
    (λ before. ap (λ b. b && ltb c s.end) (lt-leb s.first c before))
    (λ from. live_from s c from ∙ le-ltb c s.end (omega arith))
    (cases_lt c s.first)

-- the first i signals have these tracks, with these ends, on the way to the signals of later channels
pub record AreChosen (spans : List Span) (have i : ℕ) (tracks ends : List ℕ) (channel from : ℕ) : Type 0 where
  pub count : length tracks ≡ i
  pub size : length ends ≡ have
  pub filled : AreTaken ends channel from
  pub within : from ≤ length ends
  pub ahead : (j : ℕ) → i ≤ j → j < length spans → channel ≤ (span_at spans j).first
  pub counts : (c : ℕ) → channel ≤ c → taken ends c ≡ need (take i spans) c
  pub below : (j : ℕ) → j < i → (span_at spans j).first < (span_at spans j).end → get_or tracks j 0 < have
  pub kept : (j : ℕ) → j < i → (span_at spans j).first < (span_at spans j).end
      → (span_at spans j).end ≤ get_or ends (get_or tracks j 0) 0
  pub apart : (j k c : ℕ) → j < i → k < i → IsLive (span_at spans j) c → IsLive (span_at spans k) c
      → get_or tracks j 0 ≡ get_or tracks k 0 → j ≡ k

-- a track is free for the next signal
pub has_room : (spans : List Span) (have i : ℕ) (tracks ends : List ℕ) (channel from : ℕ) → AreChosen spans have i tracks ends channel from
    → ((c : ℕ) → need spans c ≤ have) → i < length spans → (span_at spans i).first < (span_at spans i).end
    → taken ends (span_at spans i).first < length ends
has_room spans have i tracks ends channel from chosen room lt live =
    let s = span_at spans i in
    let c : ℕ = s.first in
    let here : bit (is_live c s) ≡ 1 = ap {B = ℕ} bit (live_from s c (omega arith) ∙ lt-ltb c s.end live) in
    let more : need (take (i + 1) spans) c ≡ need (take i spans) c + bit (is_live c s) = need_more spans i c lt in
    let most : need (take (i + 1) spans) c ≤ need spans c = sum_by-take-le (λ x. bit (is_live c x)) spans (i + 1) in
    let now : taken ends c ≡ need (take i spans) c = chosen.counts c (chosen.ahead i (omega arith) lt) in
    omega (arith, room c, chosen.size)

-- a signal that is live is not on a track that is free for the next signal, which is live too
not_both : (spans : List Span) (have i t : ℕ) (tracks ends : List ℕ) (channel from j c : ℕ) → AreChosen spans have i tracks ends channel from
    → j < i → IsLive (span_at spans j) c → IsLive (span_at spans i) c
    → ((span_at spans i).first < (span_at spans i).end → get_or ends t 0 ≤ (span_at spans i).first)
    → get_or tracks j 0 ≡ t → ⊥
not_both spans have i t tracks ends channel from j c chosen less jlive ilive free e =
    let live : (span_at spans j).first < (span_at spans j).end = omega (arith, jlive.0, jlive.1) in
    let old : (span_at spans j).end ≤ get_or ends (get_or tracks j 0) 0 = chosen.kept j less live in
    let at : get_or ends (get_or tracks j 0) 0 ≡ get_or ends t 0 = ap (λ m. get_or ends m 0) e in
    let now : get_or ends t 0 ≤ (span_at spans i).first = free (omega (arith, ilive.0, ilive.1)) in
    omega (arith, jlive.1, ilive.0)

-- One more signal, which took track t where it is live: the ends have grown, and are counted right.
pub chosen_more : (spans : List Span) (have i t : ℕ) (tracks ends now : List ℕ) (channel from later further : ℕ)
    → AreChosen spans have i tracks ends channel from → BeginInOrder spans → i < length spans
    → length now ≡ have → AreTaken now later further → further ≤ length now → later ≤ (span_at spans i).first
    → ((u : ℕ) → get_or ends u 0 ≤ get_or now u 0)
    → ((span_at spans i).first < (span_at spans i).end
    → (t < have) × (get_or ends t 0 ≤ (span_at spans i).first) × ((span_at spans i).end ≤ get_or now t 0))
    → ((c : ℕ) → later ≤ c → taken now c ≡ need (take (i + 1) spans) c)
    → AreChosen spans have (i + 1) (tracks ++ t ∷ []) now later further
chosen_more spans have i t tracks ends now channel from later further chosen ordered lt size filled within order grows new counts =
    let before = λ (j : ℕ) (less : j < i). get_or_append_left tracks (t ∷ []) 0 j (omega (arith, chosen.count)) in
    let last = λ (j : ℕ) (e : j ≡ i). get_or_push tracks t 0 j (chosen.count ∙ sym e) in
    let other = λ (j : ℕ) (less : j < suc i) (past : i ≤ j). (let e : j ≡ i = omega arith in e) in
    record {
      count = length_push tracks t ∙ omega (arith, chosen.count);
      size = size;
      filled = filled;
      within = within;
      ahead = λ j le less. omega (arith, ordered i j (omega arith) less);
      counts = counts;
      below = λ j less live.
          ⊎_elim
          (λ here. omega (arith, before j here, chosen.below j here live))
          (λ past. let e : j ≡ i = omega arith in
          let P : ℕ → Type 0 = λ m. (span_at spans m).first < (span_at spans m).end in
          omega (arith, last j e, (new (subst P e live)).0))
          (cases_lt j i);
      kept = λ j less live.
          ⊎_elim
          (λ here. let Q : ℕ → Type 0 = λ m. (span_at spans j).end ≤ get_or now m 0 in
          let old : (span_at spans j).end ≤ get_or ends (get_or tracks j 0) 0 = chosen.kept j here live in
          let grown : get_or ends (get_or tracks j 0) 0 ≤ get_or now (get_or tracks j 0) 0 = grows (get_or tracks j 0) in
          subst Q (sym (before j here)) (omega arith))
          (λ past. let e : j ≡ i = omega arith in
          let P : ℕ → Type 0 = λ m. (span_at spans m).first < (span_at spans m).end in
          let Q : ℕ → Type 0 = λ m. (span_at spans j).end ≤ get_or now m 0 in
          let R : ℕ → Type 0 = λ m. (span_at spans m).end ≤ get_or now t 0 in
          subst Q (sym (last j e)) (subst R (sym e) (new (subst P e live)).2))
          (cases_lt j i);
      apart = λ j k c jless kless jlive klive same.
          ⊎_elim
          (λ jhere. ⊎_elim
          (λ khere. chosen.apart j k c jhere khere jlive klive (sym (before j jhere) ∙ same ∙ before k khere))
          (λ kpast. let e : k ≡ i = omega arith in
          absurd (not_both spans have i t tracks ends channel from j c chosen jhere jlive
          (let L : ℕ → Type 0 = λ m. IsLive (span_at spans m) c in subst L e klive)
          (λ live. (new live).1) (sym (before j jhere) ∙ same ∙ last k e)))
          (cases_lt k i))
          (λ jpast. let e : j ≡ i = omega arith in
          ⊎_elim
          (λ khere. absurd (not_both spans have i t tracks ends channel from k c chosen khere klive
          (let L : ℕ → Type 0 = λ m. IsLive (span_at spans m) c in subst L e jlive)
          (λ live. (new live).1) (sym (before k khere) ∙ sym same ∙ last j e)))
          (λ kpast. omega arith)
          (cases_lt k i))
          (cases_lt j i);
    }

-- ends that a signal took have grown
grown : (ends : List ℕ) (t end : ℕ) → t < length ends → get_or ends t 0 ≤ end → (u : ℕ) → get_or ends u 0 ≤ get_or (set ends t end) u 0
grown ends t end lt le u =
    ⊎_elim
    (λ e. let P : ℕ → Type 0 = λ m. get_or ends m 0 ≤ get_or (set ends t end) m 0 in
    let same : get_or (set ends t end) t 0 ≡ end = get_or-set_same ends t end 0 lt in
    subst P (sym e) (omega arith))
    (λ ne. let same : get_or (set ends t end) u 0 ≡ get_or ends u 0 = get_or-set_other ends t u end 0 ne in omega arith)
    (cases_eq u t)

-- what the choice of a track for a span says of the ends before and after
pub record IsGiven (span : Span) (t : ℕ) (ends : List ℕ) (channel : ℕ) (now : List ℕ) (later further : ℕ) : Type 0 where
  pub there : span.first < span.end → t < length ends
  pub free : span.first < span.end → get_or ends t 0 ≤ span.first
  pub taken : span.first < span.end → now ≡ set ends t span.end
  pub none : span.end ≤ span.first → now ≡ ends
  pub enters : span.first < span.end → later ≡ span.first
  pub order : later ≤ span.first
  pub onward : channel ≤ later
  pub filled : AreTaken now later further
  pub within : further ≤ length now

-- so the tracks that are given are chosen
pub chosen_given : (spans : List Span) (have i t : ℕ) (tracks ends now : List ℕ) (channel from later further : ℕ)
    → AreChosen spans have i tracks ends channel from → BeginInOrder spans → i < length spans
    → IsGiven (span_at spans i) t ends channel now later further
    → AreChosen spans have (i + 1) (tracks ++ t ∷ []) now later further
chosen_given spans have i t tracks ends now channel from later further chosen ordered lt given =
    let s = span_at spans i in
    ⊎_elim
    (λ live. let e = given.taken live in
    let there = given.there live in
    let free = given.free live in
    chosen_more spans have i t tracks ends now channel from later further chosen ordered lt
    (ap length e ∙ length-set ends t s.end ∙ chosen.size) given.filled given.within given.order
    (λ u. let P : List ℕ → Type 0 = λ l. get_or ends u 0 ≤ get_or l u 0 in
    subst P (sym e) (grown ends t s.end there (omega arith) u))
    (λ _. (
      omega (arith, chosen.size),
      free,
      (let Q : List ℕ → Type 0 = λ l. s.end ≤ get_or l t 0 in
          let same : get_or (set ends t s.end) t 0 ≡ s.end = get_or-set_same ends t s.end 0 there in
          subst Q (sym e) (omega arith)),
    ))
    (λ c le. let from_first : s.first ≤ c = omega (arith, given.enters live) in
    ap (λ l. taken l c) e
    ∙ taken-set ends t s.end c there (omega arith)
    ∙ ap (λ b. taken ends c + bit b) (sym (live_from s c from_first))
    ∙ ap (λ n. n + bit (is_live c s)) (chosen.counts c (omega (arith, given.onward)))
    ∙ sym (need_more spans i c lt)))
    (λ past. let e = given.none past in
    chosen_more spans have i t tracks ends now channel from later further chosen ordered lt
    (ap length e ∙ chosen.size) given.filled given.within given.order
    (λ u. let P : List ℕ → Type 0 = λ l. get_or ends u 0 ≤ get_or l u 0 in
    subst P (sym e) (omega arith))
    (λ live. absurd (omega arith))
    (λ c le. let never : bit (is_live c s) ≡ 0 = ap {B = ℕ} bit (live_never s c past) in
    let counted : taken ends c ≡ need (take i spans) c = chosen.counts c (omega (arith, given.onward)) in
    let more : need (take (i + 1) spans) c ≡ need (take i spans) c + bit (is_live c s) = need_more spans i c lt in
    ap (λ l. taken l c) e ∙ omega arith))
    (cases_lt s.first s.end)

-- before the first signal all tracks are free
pub chosen_none : (spans : List Span) (have : ℕ) (ends : List ℕ) → length ends ≡ have → ((c : ℕ) → taken ends c ≡ 0)
    → AreChosen spans have 0 [] ends 0 0
chosen_none spans have ends size free = record {
  count = refl;
  size = size;
  filled = λ j lt. absurd (omega arith);
  within = omega arith;
  ahead = λ j le lt. omega arith;
  counts = λ c le. free c;
  below = λ j lt live. absurd (omega arith);
  kept = λ j lt live. absurd (omega arith);
  apart = λ j k c lt less p q e. absurd (omega arith);
}

-- tracks that are free at first
pub taken-replicate : (n c : ℕ) → taken (replicate n 0) c ≡ 0
taken-replicate zero c = refl
taken-replicate (suc n) c =
    let first : bit (ltb c 0) ≡ 0 = ap {B = ℕ} bit (le-ltb c 0 (omega arith)) in
    let rest : taken (replicate n 0) c ≡ 0 = taken-replicate n c in
    let step : taken (replicate (suc n) 0) c ≡ bit (ltb c 0) + taken (replicate n 0) c = sum_by-cons (λ x. bit (ltb c x)) 0 (replicate n 0) in
    omega arith

-- at the end all signals have their tracks
pub chosen_all : (spans : List Span) (have i : ℕ) (tracks ends : List ℕ) (channel from : ℕ) → AreChosen spans have i tracks ends channel from
    → i ≡ length spans → AreTracks spans have tracks
chosen_all spans have i tracks ends channel from chosen e = record {
  count = chosen.count ∙ e;
  within = λ j c lt live. chosen.below j (omega arith) (omega (arith, live.0, live.1));
  apart = λ j k c lt less p q same. chosen.apart j k c (omega arith) (omega arith) p q same;
}

-- the first track that isn't taken is there, where fewer are taken than there are
pub free_there : (old ends view : List ℕ) (c from t : ℕ) → ends ≡ old → view ≡ ends → AreTaken ends c from
    → ((j : ℕ) → from ≤ j → j < t → c < get_or view j 0) → t ≤ length view → taken old c < length old → t < length old
free_there old ends view c from t e f filled before within room =
    let same : view ≡ old = f ∙ e in
    let long : length view ≡ length old = ap length same in
    let P : List ℕ → Type 0 = λ l. AreTaken l c from in
    let Q : List ℕ → Type 0 = λ l. (j : ℕ) → from ≤ j → j < t → c < get_or l j 0 in
    let first = subst P e filled in
    let rest = subst Q same before in
    ⊎_elim
    (λ lt. lt)
    (λ past. let all : taken old c ≡ length old =
    all_taken old c (λ j less. ⊎_elim (λ here. first j here) (λ there. rest j there (omega arith)) (cases_lt j from)) in
    absurd (omega arith))
    (cases_lt t (length old))

-- and all tracks up to it are taken then
pub taken_further : (ends view : List ℕ) (c from t end : ℕ) → view ≡ ends → AreTaken ends c from
    → ((j : ℕ) → from ≤ j → j < t → c < get_or view j 0) → t < length ends → c < end → AreTaken (set ends t end) c (t + 1)
taken_further ends view c from t end f filled before lt live =
    let Q : List ℕ → Type 0 = λ l. (j : ℕ) → from ≤ j → j < t → c < get_or l j 0 in
    let rest = subst Q f before in
    λ j less.
    ⊎_elim
    (λ here. let ne : j ≡ t → ⊥ = λ e. omega arith in
    let kept : get_or (set ends t end) j 0 ≡ get_or ends j 0 = get_or-set_other ends t j end 0 ne in
    let before_it : c < get_or ends j 0 = ⊎_elim (λ first. filled j first) (λ there. rest j there here) (cases_lt j from) in
    omega arith)
    (λ past. let P : ℕ → Type 0 = λ m. c < get_or (set ends t end) m 0 in
    let e : t ≡ j = omega arith in
    let new : get_or (set ends t end) t 0 ≡ end = get_or-set_same ends t end 0 lt in
    subst P e (omega arith))
    (cases_lt j t)
