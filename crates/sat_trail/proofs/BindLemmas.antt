-- What is kept when a loose clause is bound, by two literals that aren't false or by a true one and one that became
-- false on the present level.
use Rattle.std.proofs.Common.{◌≡◌, ◌≢◌, ◌⊎◌, ◌↔◌, ℕ, ◌+◌, ◌*◌, ◌/◌, ◌<◌, ◌≤◌, List, [], ◌∷◌, length, get_or, take, Option, inl, inr, refl, sym, ap, subst, arith}
use Rattle.clause_defs.specs.Literals.{Literal, negation}
use Rattle.clause_defs.specs.Clauses.{Lits, Has}
use Rattle.pch_base.proofs.SetLemmas.{Has-append}
use Rattle.trail_defs.specs.Trails.{IsReason}
use Rattle.sat_trail.specs.Watching.{lit_at, IsWatched}
use Rattle.sat_trail.specs.Stages.{stage_at, AreMarked, AreStages}
use Rattle.sat_trail.specs.Looks.{HasMarks, Keeps}
use Rattle.sat_trail.specs.Loosening.{IsForced}
use Rattle.sat_trail.specs.declared.levels.Stage.{Stage}
use Rattle.sat_trail.proofs.MoveLemmas.{has_take}
use Rattle.sat_trail.proofs.BoundLemmas.{bound_watched}
use Rattle.sat_trail.proofs.TrailLemmas.{has_place_before}
use Rattle.sat_trail.proofs.LookLemmas.{grows_none, keeps_same}
use Rattle.sat_trail.proofs.NextLemmas.{keeps_forced}
use Rattle.sat_trail.proofs.VisitSteps.{not_same}

module _ (clauses : List (Option Lits)) (variables : ℕ) (loose loose2 : List ℕ) (watch later : Lits) (b : ℕ) (first second : Literal)
    (was : (w : ℕ) → Has loose w ↔ ((w ≡ 2 * b) ⊎ Has loose2 w)) (gone : Has loose2 (2 * b) → ⊥)
    (size : length later ≡ length watch) (at_first : lit_at later (2 * b) ≡ first) (at_second : lit_at later (2 * b + 1) ≡ second)
    (others : (w : ℕ) → w / 2 ≢ b → lit_at later w ≡ lit_at watch w)
    (level : ℕ) (t : Lits) (levels reasons : List ℕ) (open_first : Has t (negation first) → ⊥) where
  watched_now : (n done : ℕ) → (Has (take done t) (negation second) → Has (take n t) first) → IsWatched clauses loose watch (take n t) (take done t)
      → IsWatched clauses loose2 later (take n t) (take done t)
  watched_now n done beside before = bound_watched clauses loose loose2 watch b first second was gone later size at_first at_second others (take n t) (take done t)
      (λ h. open_first (has_take done t (negation first) h)) beside before

  watched_all : (done : ℕ) → (Has (take done t) (negation second) → Has t first) → IsWatched clauses loose watch t (take done t)
      → IsWatched clauses loose2 later t (take done t)
  watched_all done beside before = bound_watched clauses loose loose2 watch b first second was gone later size at_first at_second others t (take done t)
      (λ h. open_first (has_take done t (negation first) h)) beside before

  -- neither is false
  pub open_keeps : (Has t (negation second) → ⊥) → Keeps clauses variables level loose loose2 watch t levels reasons later t levels reasons
  open_keeps open_second = record {
    grows = grows_none t levels reasons level;
    watched = λ done le before. watched_all done (λ h. absurd (open_second (has_take done t (negation second) h))) before;
    stages = λ done stages len marked are. record {
      passed = are.passed;
      now = watched_all done (λ h. absurd (open_second (has_take done t (negation second) h))) are.now;
      each = λ j lt.
          let e = are.each j lt in
          (e.0, watched_now (stage_at stages j).len (stage_at stages j).done (λ h. absurd (open_second (has_take (stage_at stages j).done t (negation second) h))) e.1);
      rising = are.rising;
    };
    marked = λ stages len within marked. marked;
  }

  -- what got its value on the present level isn't in the list of an earlier stage
  not_before : (done : ℕ) (stages : List Stage) → length stages ≡ level → AreMarked clauses variables t levels reasons stages → AreStages clauses loose watch t done stages
      → get_or levels second.variable 0 ≡ level → (j : ℕ) → j < length stages → Has (take (stage_at stages j).done t) (negation second) → ⊥
  not_before done stages len marked are late j lt h =
      let stage = (are.each j lt).0 in
      let passed = stage.passed in
      let within = stage.within in
      let place = has_place_before t (stage_at stages j).done (negation second) (omega arith) h in
      let before = place.2 in
      let reached = (marked.levels_are place.0 (negation second) place.1 j lt).1 (omega arith) in
      absurd (omega arith)

  -- the first is true, and the second one got its value on the present level
  pub late_keeps : Has t first → get_or levels second.variable 0 ≡ level → Keeps clauses variables level loose loose2 watch t levels reasons later t levels reasons
  late_keeps is_true late = record {
    grows = grows_none t levels reasons level;
    watched = λ done le before. watched_all done (λ _. is_true) before;
    stages = λ done stages len marked are. record {
      passed = are.passed;
      now = watched_all done (λ _. is_true) are.now;
      each = λ j lt.
          let e = are.each j lt in
          (e.0, watched_now (stage_at stages j).len (stage_at stages j).done (λ h. absurd (not_before done stages len marked are late j lt h)) e.1);
      rising = are.rising;
    };
    marked = λ stages len within marked. marked;
  }

-- ---- a literal that was given its value, if it had none

module _ (level : ℕ) (l : Literal) (number : ℕ) (t : Lits) (levels reasons : List ℕ) (u : Lits) (levels2 reasons2 : List ℕ)
    (forced : IsForced level l number t levels reasons u levels2 reasons2) where
  pub forced_true : Has u l
  forced_true = elim forced [
    | inl was ↦ subst (λ s. Has s l) (sym was.1) was.0
    | inr now ↦ subst (λ s. Has s l) (sym now.1) ((Has-append t (l ∷ []) l).1 (inr (inl refl)))
  ]

  pub forced_more : (m : Literal) → Has t m → Has u m
  forced_more m h = elim forced [
    | inl was ↦ subst (λ s. Has s m) (sym was.1) h
    | inr now ↦ subst (λ s. Has s m) (sym now.1) ((Has-append t (l ∷ []) m).1 (inl h))
  ]

  pub forced_open : (Has t (negation l) → ⊥) → Has u (negation l) → ⊥
  forced_open still_open h = elim forced [
    | inl was ↦ still_open (subst (λ s. Has s (negation l)) was.1 h)
    | inr now ↦ elim ((Has-append t (l ∷ []) (negation l)).0 (subst (λ s. Has s (negation l)) now.1 h)) [
      | inl old ↦ still_open old
      | inr (inl e) ↦ not_same l.positive (ap (λ (x : Literal). x.positive) e)
      | inr (inr none) ↦ none
    ]
  ]

  pub forced_keeps : (clauses : List (Option Lits)) (variables : ℕ) (loose : List ℕ) (watch : Lits) → HasMarks variables levels reasons → l.variable ≤ variables
      → IsReason clauses t number l → Keeps clauses variables level loose loose watch t levels reasons watch u levels2 reasons2
  forced_keeps clauses variables loose watch marks within reason = elim forced [
    | inl was ↦
        subst (λ s. Keeps clauses variables level loose loose watch t levels reasons watch s levels2 reasons2) (sym was.1)
        (subst (λ ks. Keeps clauses variables level loose loose watch t levels reasons watch t ks reasons2) (sym was.2)
        (subst (Keeps clauses variables level loose loose watch t levels reasons watch t levels) (sym was.3)
        (keeps_same clauses variables level loose loose loose watch t levels reasons)))
    | inr now ↦ keeps_forced clauses variables level loose loose watch watch t levels reasons number l
        (keeps_same clauses variables level loose loose loose watch t levels reasons) marks within now.0 reason u levels2 reasons2 now.1 now.2 now.3
  ]
