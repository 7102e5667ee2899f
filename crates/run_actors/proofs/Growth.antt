-- A transcript with one more command: what stood in it stays right.
use Rattle.std.proofs.Common.{◌≡◌, ℕ, zero, suc, ◌+◌, ◌≤◌, inl, inr, List, [], ◌∷◌, ◌++◌, length, take, Some, refl, sym, ap, subst, ◌∙◌, arith}
use Rattle.std.specs.List.{slice_get}
use Rattle.std.proofs.lemmas.List.{length-append, take-append-le}
use Rattle.std.proofs.lemmas.Option.{none-some, slice_get_within}
use Rattle.journal_defs.specs.Journals.{EntryValue}
use Rattle.script_defs.specs.declared.command.Command.{Command}
use Rattle.script_defs.specs.Scripts.{ScriptValue}
use Rattle.script_defs.specs.Transcripts.{ReplyValue}
use Rattle.session_defs.specs.Files.{Contents}
use Rattle.session_defs.specs.Meant.{at_turn}
use Rattle.session_defs.specs.Points.{before, after, PointsRise}
use Rattle.session_defs.specs.Replies.{Meets}
use Rattle.lane_laws.proofs.Turns.{slice_get-longer, slice_get-last, slice_get-split, at_turn-split, at_turn-free}
use Rattle.run_actors.proofs.Replies.{meets-later}

-- ---- one reply for each command

-- the lanes of commands and of replies have the same shape
abbrev pub SameShape : List (List Command) → List (List ReplyValue) → Type 0
SameShape ls rs =
    (length rs ≡ length ls)
    × ((lane : ℕ) (cs : List Command) (r : List ReplyValue)
    → slice_get ls lane ≡ Some cs → slice_get rs lane ≡ Some r → length r ≡ length cs)

-- the lanes before the last one are as many
pub shape-lanes : (ls : List (List Command)) (cs : List Command) (rs : List (List ReplyValue)) (r : List ReplyValue)
    → SameShape (ls ++ cs ∷ []) (rs ++ r ∷ []) → length rs ≡ length ls
shape-lanes ls cs rs r same = omega (arith, same.0, length-append ls (cs ∷ []), length-append rs (r ∷ []))

-- and the last ones are as long
pub shape-last : (ls : List (List Command)) (cs : List Command) (rs : List (List ReplyValue)) (r : List ReplyValue)
    → SameShape (ls ++ cs ∷ []) (rs ++ r ∷ []) → length r ≡ length cs
shape-last ls cs rs r same =
    same.1 (length ls) cs r (slice_get-last ls cs)
    (subst (λ n. slice_get (rs ++ r ∷ []) n ≡ Some r) (shape-lanes ls cs rs r same) (slice_get-last rs r))

-- one lane more
pub shape-lane : (ls : List (List Command)) (cs : List Command) (rs : List (List ReplyValue)) (r : List ReplyValue)
    → SameShape ls rs → length r ≡ length cs → SameShape (ls ++ cs ∷ []) (rs ++ r ∷ [])
shape-lane ls cs rs r same count = (
  omega (arith, same.0, length-append ls (cs ∷ []), length-append rs (r ∷ [])),
  λ lane ds q commands replies.
      elim (slice_get-split ls cs lane ds commands) [
        | inl old ↦
            elim (slice_get-split rs r lane q replies) [
              | inl was ↦ same.1 lane ds q old was
              | inr new ↦ absurd (omega (arith, new.0, same.0, slice_get_within ls lane ds old))
            ]
        | inr last ↦
            elim (slice_get-split rs r lane q replies) [
              | inl was ↦ absurd (omega (arith, last.0, same.0, slice_get_within rs lane q was))
              | inr new ↦ sym (ap length new.1) ∙ count ∙ ap length last.1
            ]
      ],
)

-- without its last lane
pub shape-front : (ls : List (List Command)) (cs : List Command) (rs : List (List ReplyValue)) (r : List ReplyValue)
    → SameShape (ls ++ cs ∷ []) (rs ++ r ∷ []) → SameShape ls rs
shape-front ls cs rs r same = (
  shape-lanes ls cs rs r same,
  λ lane ds q commands replies.
      same.1 lane ds q (slice_get-longer ls (cs ∷ []) lane ds commands) (slice_get-longer rs (r ∷ []) lane q replies),
)

-- one command more in the last lane
pub shape-command : (ls : List (List Command)) (cs : List Command) (c : Command) (rs : List (List ReplyValue))
    (r : List ReplyValue) (reply : ReplyValue) → SameShape (ls ++ cs ∷ []) (rs ++ r ∷ [])
    → SameShape (ls ++ (cs ++ c ∷ []) ∷ []) (rs ++ (r ++ reply ∷ []) ∷ [])
shape-command ls cs c rs r reply same =
    shape-lane ls (cs ++ c ∷ []) rs (r ++ reply ∷ []) (shape-front ls cs rs r same)
    (omega (arith, shape-last ls cs rs r same, length-append cs (c ∷ []), length-append r (reply ∷ [])))

-- ---- points

-- each lane's points rise
abbrev pub AllRise : ℕ → List (List ReplyValue) → Type 0
AllRise entries rs =
    (lane : ℕ) (replies : List ReplyValue) → slice_get rs lane ≡ Some replies → PointsRise entries replies

-- a journal may grow
points-later : (entries more : ℕ) (r : List ReplyValue) → entries ≤ more → PointsRise entries r → PointsRise more r
points-later entries more r le rise = record {
  rises = rise.rises;
  within = λ turn q found. omega (arith, le, rise.within turn q found);
  never_falls = rise.never_falls;
}

-- the points of a lane with one more reply
points-reply : (entries more : ℕ) (r : List ReplyValue) (reply : ReplyValue) → PointsRise entries r
    → entries ≤ before reply → before reply ≤ after reply → after reply ≤ more → PointsRise more (r ++ reply ∷ [])
points-reply entries more r reply rise begins rises within = record {
  rises = λ turn q found.
      elim (slice_get-split r reply turn q found) [
        | inl old ↦ rise.rises turn q old
        | inr new ↦ subst (λ p. before p ≤ after p) new.1 rises
      ];
  within = λ turn q found.
      elim (slice_get-split r reply turn q found) [
        | inl old ↦ omega (arith, begins, rises, within, rise.within turn q old)
        | inr new ↦ subst (λ p. after p ≤ more) new.1 within
      ];
  never_falls = λ turn q next found follows.
      elim (slice_get-split r reply (turn + 1) next follows) [
        | inl later ↦
            elim (slice_get-split r reply turn q found) [
              | inl old ↦ rise.never_falls turn q next old later
              | inr new ↦ absurd (omega (arith, new.0, slice_get_within r (turn + 1) next later))
            ]
        | inr last ↦
            elim (slice_get-split r reply turn q found) [
              | inl old ↦
                  let le : after q ≤ before reply = omega (arith, begins, rise.within turn q old) in
                  subst (λ p. after q ≤ before p) last.1 le
              | inr new ↦ absurd (omega (arith, new.0, last.0))
            ]
      ];
}

-- the points of all lanes with one more reply in the last one
pub rise-command : (entries more : ℕ) (rs : List (List ReplyValue)) (r : List ReplyValue) (reply : ReplyValue)
    → AllRise entries (rs ++ r ∷ []) → entries ≤ before reply → before reply ≤ after reply → after reply ≤ more
    → AllRise more (rs ++ (r ++ reply ∷ []) ∷ [])
rise-command entries more rs r reply rise begins rises within lane replies found =
    elim (slice_get-split rs (r ++ reply ∷ []) lane replies found) [
      | inl old ↦
          points-later entries more replies (omega (arith, begins, rises, within))
          (rise lane replies (slice_get-longer rs (r ∷ []) lane replies old))
      | inr new ↦
          subst (PointsRise more) new.1
          (points-reply entries more r reply (rise (length rs) r (slice_get-last rs r)) begins rises within)
    ]

-- an empty lane more
pub rise-lane : (entries : ℕ) (rs : List (List ReplyValue)) → AllRise entries rs → AllRise entries (rs ++ [] ∷ [])
rise-lane entries rs rise lane replies found =
    elim (slice_get-split rs [] lane replies found) [
      | inl old ↦ rise lane replies old
      | inr new ↦
          subst (PointsRise entries) new.1 (record {
            rises = λ turn q none. absurd (none-some q none);
            within = λ turn q none. absurd (none-some q none);
            never_falls = λ turn q next none. absurd (none-some q none);
          })
    ]

-- ---- conditions of replies

-- the later journal begins as the former one
pub record Extends (h later : List EntryValue) : Type 0 where
  pub longer : length h ≤ length later
  pub begins : (n : ℕ) → n ≤ length h → take n h ≡ take n later

-- a command that makes no entry leaves the journal as it is
pub extends-same : (h : List EntryValue) → Extends h h
extends-same h = record { longer = omega arith; begins = λ n le. refl }

-- an entry is added at the end, so all that came before stays
pub extends-more : (h : List EntryValue) (e : EntryValue) → Extends h (h ++ e ∷ [])
extends-more h e = record {
  longer = omega (arith, length-append h (e ∷ []));
  begins = λ n le. sym (take-append-le n h (e ∷ []) le);
}

-- each reply meets its condition
abbrev pub AllMeet : ScriptValue → List Contents → List EntryValue → List (List Command) → List (List ReplyValue) → Type 0
AllMeet s files h ls rs =
    (lane turn : ℕ) (c : Command) (q : ReplyValue) → at_turn ls lane turn ≡ Some c → at_turn rs lane turn ≡ Some q
    → Meets s.geometry s.limit files h c q

-- the lane of a turn at which something stands
lane-at : {X : Type 0} (ls : List (List X)) (lane turn : ℕ) (x : X) → at_turn ls lane turn ≡ Some x
    → (l : List X) × (slice_get ls lane ≡ Some l) × (slice_get l turn ≡ Some x)
lane-at [] lane turn x found = absurd (none-some x found)
lane-at (l ∷ ls) zero turn x found = (l, refl, found)
lane-at (l ∷ ls) (suc lane) turn x found = lane-at ls lane turn x found

-- a reply that met its condition meets it still
still-meets : (s : ScriptValue) (files : List Contents) (h later : List EntryValue) (rs : List (List ReplyValue))
    (lane turn : ℕ) (c : Command) (q : ReplyValue) → Extends h later → AllRise (length h) rs
    → at_turn rs lane turn ≡ Some q → Meets s.geometry s.limit files h c q → Meets s.geometry s.limit files later c q
still-meets s files h later rs lane turn c q extends rise found meets =
    let place = lane-at rs lane turn q found in
    let points : PointsRise (length h) place.0 = rise lane place.0 place.1 in
    let within : after q ≤ length h = points.within turn q place.2 in
    let order : before q ≤ after q = points.rises turn q place.2 in
    meets-later s.geometry s.limit files h later c q
    (extends.begins (before q) (omega (arith, within, order)), extends.begins (after q) within) meets

-- where one reply more meets its condition, all do: those before are kept by the journal's growth
pub meet-command : (s : ScriptValue) (files : List Contents) (h later : List EntryValue)
    (ls : List (List Command)) (cs : List Command) (c : Command)
    (rs : List (List ReplyValue)) (r : List ReplyValue) (reply : ReplyValue)
    → Extends h later → SameShape (ls ++ cs ∷ []) (rs ++ r ∷ []) → AllRise (length h) (rs ++ r ∷ [])
    → AllMeet s files h (ls ++ cs ∷ []) (rs ++ r ∷ []) → Meets s.geometry s.limit files later c reply
    → AllMeet s files later (ls ++ (cs ++ c ∷ []) ∷ []) (rs ++ (r ++ reply ∷ []) ∷ [])
meet-command s files h later ls cs c rs r reply extends shape rise all meets lane turn d q command found =
    elim (at_turn-split ls cs c lane turn d command) [
      | inl old ↦
          elim (at_turn-split rs r reply lane turn q found) [
            | inl was ↦
                still-meets s files h later (rs ++ r ∷ []) lane turn d q extends rise was
                (all lane turn d q old was)
            | inr new ↦
                let at_lane : lane ≡ length ls = new.0 ∙ shape-lanes ls cs rs r shape in
                let at_end : turn ≡ length cs = new.1 ∙ shape-last ls cs rs r shape in
                absurd (at_turn-free ls cs d
                (subst (λ n. at_turn (ls ++ cs ∷ []) (length ls) n ≡ Some d) at_end
                (subst (λ n. at_turn (ls ++ cs ∷ []) n turn ≡ Some d) at_lane old)))
          ]
      | inr last ↦
          elim (at_turn-split rs r reply lane turn q found) [
            | inl was ↦
                let at_lane : lane ≡ length rs = last.0 ∙ sym (shape-lanes ls cs rs r shape) in
                let at_end : turn ≡ length r = last.1 ∙ sym (shape-last ls cs rs r shape) in
                absurd (at_turn-free rs r q
                (subst (λ n. at_turn (rs ++ r ∷ []) (length rs) n ≡ Some q) at_end
                (subst (λ n. at_turn (rs ++ r ∷ []) n turn ≡ Some q) at_lane was)))
            | inr new ↦
                subst (λ a. Meets s.geometry s.limit files later a q) last.2
                (subst (λ a. Meets s.geometry s.limit files later c a) new.2 meets)
          ]
    ]
